use Rattle.std.proofs.Common.{map}
use Rattle.std.proofs.lemmas.Result.{IfErr-weaker}
use Rattle.constraint_expand.specs.declared.kinds.Kind.TheVariants.{Instances}
use Rattle.grammar_files.specs.Placings.{placed_of}
use Rattle.constraint_expand.specs.Systems.{settled_of}
use Rattle.constraint_expand.specs.Found.{IsWithoutAmong, IsUnwrittenFault}
use Rattle.constraint_expand.proofs.WriterLemmas.{on_ok}
use Rattle.constraint_expand.proofs.MissingLemmas.{at_exit, without_of_types, without_of_instances, are_written}
use Rattle.constraint_expand.proofs.missing.check_written.Goals as goal

pub returns-in_err-check_kind-clause-fault : goal.returns-in_err-check_kind-clause-fault
returns-in_err-check_kind-clause-fault c =
    let types = c.args.types.now in
    let s = settled_of c.args.names.now in
    let ps = map placed_of c.args.statements.now in
    at_exit (IsUnwrittenFault types s ps) c.from_residual.result c.in_err-check_kind.field-0.0 c.from_residual.ensures.1
    (without_of_types types s ps c.args.writers.now.entries c.requires c.in_err-check_kind.field-0.0 c.in_err-check_kind.ensures.fault)

pub returns-clause-written : goal.returns-clause-written
returns-clause-written c =
    on_ok c.check_kind-2.result
    (are_written c.args.types.now (settled_of c.args.names.now) (map placed_of c.args.statements.now) c.args.writers.now.entries c.requires c.in_ok-check_kind.ensures.written)
    c.check_kind-2.ensures.written

pub returns-clause-fault : goal.returns-clause-fault
returns-clause-fault c =
    let types = c.args.types.now in
    let s = settled_of c.args.names.now in
    let ps = map placed_of c.args.statements.now in
    let entries = c.args.writers.now.entries in
    IfErr-weaker c.check_kind-2.result (IsWithoutAmong entries s.lists ps Instances) (IsUnwrittenFault types s ps)
    (λ e h. without_of_instances types s ps entries c.requires e c.in_ok-check_kind.ensures.written h) c.check_kind-2.ensures.fault
