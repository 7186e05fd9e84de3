use Rattle.std.proofs.Common.{subst, sym}
use Rattle.constraint_expand.specs.Systems.{Settled}
use Rattle.grammar_files.specs.WalkViews.{walked_of}
use Rattle.fault_details.specs.Inner.{IsNoStructureAt}
use Rattle.fault_details.proofs.structures.clash_line.Goals as goal

pub returns-then-not-is_definition_at-clause-read : goal.returns-then-not-is_definition_at-clause-read
returns-then-not-is_definition_at-clause-read c = λ unread types typed lacks. c.is_definition_at.ensures.other c.if-not-is_definition_at.true types lacks

pub returns-in-Ok-clause-read : goal.returns-in-Ok-clause-read
returns-in-Ok-clause-read c = λ unread types typed lacks.
    c.named_line.ensures.read unread types typed (subst (λ (s : Settled). IsNoStructureAt (walked_of c.args.walked.now) s types c.args.k) (sym c.in-Ok.ensures.names) lacks)

pub returns-in-Err-clause-read : goal.returns-in-Err-clause-read
returns-in-Err-clause-read c = λ unread. absurd (c.in-Err.ensures.read cc)
