use Rattle.std.proofs.Common.{◌≡◌, ◌<◌, true, length, map, sym, subst, arith}
use Rattle.std.proofs.lemmas.List.{length-map}
use Rattle.body_facts.specs.Writing.{list_names}
use Rattle.grammar_files.specs.Placings.{placed_of}
use Rattle.constraint_expand.specs.Kinds.{picks}
use Rattle.constraint_expand.specs.Found.{UsesWithout, IsWithoutAmong}
use Rattle.constraint_expand.proofs.FirstLemmas.{at_placed, placed_within, none_next, none_at_all}
use Rattle.constraint_expand.proofs.MissingLemmas.{at_exit, without_here, none_uses}
use Rattle.constraint_expand.proofs.missing.check_kind.Goals as goal

pub loop-i-preserved : goal.loop-i-preserved
loop-i-preserved c =
    let xs = c.args.statements.now in
    let ps = map placed_of xs in
    let i = c.loop-i.i in
    let within : i < length xs = omega arith in
    let here = at_placed xs i c.index-statements-i.result within c.index-statements-i.is in
    none_next (picks c.args.kind) ps (UsesWithout c.args.writers.now.entries (list_names c.args.names.now)) i c.loop-i.invariant
    (subst (λ p. picks c.args.kind p ≡ true → UsesWithout c.args.writers.now.entries (list_names c.args.names.now) p → ⊥) (sym here)
    (none_uses c.args.writers.now.entries (list_names c.args.names.now) c.args.kind (placed_of c.index-statements-i.result) c.in_ok-check_statement.ensures.written))

pub returns-in_err-check_statement-clause-fault : goal.returns-in_err-check_statement-clause-fault
returns-in_err-check_statement-clause-fault c =
    let xs = c.args.statements.now in
    let ps = map placed_of xs in
    let n = list_names c.args.names.now in
    let entries = c.args.writers.now.entries in
    let i = c.loop-i.i in
    let within : i < length xs = omega arith in
    at_exit (IsWithoutAmong entries n ps c.args.kind) c.from_residual.result c.in_err-check_statement.field-0.0 c.from_residual.ensures.1
    (without_here entries n ps c.args.kind i (placed_of c.index-statements-i.result) c.in_err-check_statement.field-0.0
    (at_placed xs i c.index-statements-i.result within c.index-statements-i.is) (placed_within xs i within) c.loop-i.invariant c.in_err-check_statement.ensures.fault)

pub returns-clause-written : goal.returns-clause-written
returns-clause-written c =
    let xs = c.args.statements.now in
    none_at_all (picks c.args.kind) (map placed_of xs) (UsesWithout c.args.writers.now.entries (list_names c.args.names.now)) c.loop-i.i
    (omega (arith, length-map xs placed_of)) c.loop-i.invariant
