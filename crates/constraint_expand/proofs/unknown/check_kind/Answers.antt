use Rattle.std.proofs.Common.{◌≡◌, ◌<◌, true, length, map, sym, subst, arith}
use Rattle.std.proofs.lemmas.List.{length-map}
use Rattle.body_facts.specs.Writing.{list_names}
use Rattle.grammar_files.specs.Placings.{placed_of}
use Rattle.constraint_expand.specs.Kinds.{picks}
use Rattle.constraint_expand.specs.Unknowns.{NamesUnknown}
use Rattle.constraint_expand.specs.Found.{IsUnknownAmong}
use Rattle.constraint_expand.proofs.FirstLemmas.{at_placed, placed_within, none_next, none_at_all}
use Rattle.constraint_expand.proofs.MissingLemmas.{at_exit}
use Rattle.constraint_expand.proofs.UnknownLemmas.{unknown_here}
use Rattle.constraint_expand.proofs.unknown.check_kind.Goals as goal

pub loop-i-preserved : goal.loop-i-preserved
loop-i-preserved c =
    let xs = c.args.statements.now in
    let ps = map placed_of xs in
    let i = c.loop-i.i in
    let within : i < length xs = omega arith in
    let here = at_placed xs i c.index-statements-i.result within c.index-statements-i.is in
    none_next (picks c.args.kind) ps (NamesUnknown c.args.types.now (list_names c.args.names.now) ps) i c.loop-i.invariant
    (subst (λ p. picks c.args.kind p ≡ true → NamesUnknown c.args.types.now (list_names c.args.names.now) ps p → ⊥) (sym here) (c.in_ok-check_statement.ensures.known ps c.requires))

pub returns-in_err-check_statement-clause-fault : goal.returns-in_err-check_statement-clause-fault
returns-in_err-check_statement-clause-fault c =
    let xs = c.args.statements.now in
    let ps = map placed_of xs in
    let names = list_names c.args.names.now in
    let i = c.loop-i.i in
    let within : i < length xs = omega arith in
    let e = c.in_err-check_statement.field-0.0 in
    at_exit (IsUnknownAmong c.args.types.now names ps c.args.kind) c.from_residual.result e c.from_residual.ensures.1
    (unknown_here c.args.types.now names ps c.args.kind i (placed_of c.index-statements-i.result) e
    (at_placed xs i c.index-statements-i.result within c.index-statements-i.is) (placed_within xs i within) c.loop-i.invariant (c.in_err-check_statement.ensures.fault ps c.requires))

pub returns-clause-known : goal.returns-clause-known
returns-clause-known c =
    let xs = c.args.statements.now in
    none_at_all (picks c.args.kind) (map placed_of xs) (NamesUnknown c.args.types.now (list_names c.args.names.now) (map placed_of xs)) c.loop-i.i
    (omega (arith, length-map xs placed_of)) c.loop-i.invariant
