use Rattle.std.proofs.Common.{map}
use Rattle.std.proofs.lemmas.Result.{IfErr-weaker, on_ok_weaker}
use Rattle.constraint_expand.specs.declared.kinds.Kind.TheVariants.{Instances}
use Rattle.grammar_files.specs.Placings.{placed_of}
use Rattle.constraint_expand.specs.Systems.{settled_of}
use Rattle.constraint_expand.specs.Found.{IsUnknownAmong, IsUnknownFault}
use Rattle.constraint_expand.proofs.MissingLemmas.{at_exit}
use Rattle.constraint_expand.proofs.UnknownLemmas.{unknown_of_types, unknown_of_instances, names_known}
use Rattle.constraint_expand.proofs.unknown.check_names.Goals as goal

pub returns-in_err-check_kind-clause-fault : goal.returns-in_err-check_kind-clause-fault
returns-in_err-check_kind-clause-fault c =
    let types = c.args.types.now in
    let s = settled_of c.args.names.now in
    let ps = map placed_of c.args.statements.now in
    let e = c.in_err-check_kind.field-0.0 in
    at_exit (IsUnknownFault types s ps) c.from_residual-in_err-check_kind.result e c.from_residual-in_err-check_kind.ensures.1
    (unknown_of_types types s ps e c.in_err-check_kind.ensures.fault)

pub returns-clause-known : goal.returns-clause-known
returns-clause-known c =
    on_ok_weaker c.check_kind-2.result
    (names_known c.args.types.now (settled_of c.args.names.now) (map placed_of c.args.statements.now) c.in_ok-check_kind.ensures.known) c.check_kind-2.ensures.known

pub returns-clause-fault : goal.returns-clause-fault
returns-clause-fault c =
    let types = c.args.types.now in
    let s = settled_of c.args.names.now in
    let ps = map placed_of c.args.statements.now in
    IfErr-weaker c.check_kind-2.result (IsUnknownAmong types s.lists ps Instances) (IsUnknownFault types s ps)
    (λ e h. unknown_of_instances types s ps e c.in_ok-check_kind.ensures.known h) c.check_kind-2.ensures.fault
