use Rattle.std.proofs.Common.{subst}
use Rattle.type_hierarchy.specs.Table.{TypeTable}
use Rattle.constraint_expand.specs.Systems.{settled_of}
use Rattle.grammar_files.specs.WalkViews.{walked_of}
use Rattle.fault_details.specs.Inner.{LacksStructure}
use Rattle.fault_details.proofs.structures.typed_by.Goals as goal

pub returns-in-Ok-clause-read : goal.returns-in-Ok-clause-read
returns-in-Ok-clause-read c = λ unread types typed lacks.
    let w = walked_of c.args.walked.now in
    c.system_of.ensures.read unread
    (subst (λ (t : TypeTable). LacksStructure w (settled_of c.args.names.now) t) (c.one_settling.ensures.tables w types c.in-Ok.types typed c.in-Ok.ensures.types) lacks)

pub returns-in-Err-clause-read : goal.returns-in-Err-clause-read
returns-in-Err-clause-read c = λ unread types typed lacks. c.in-Err.ensures.read (cc) types typed
