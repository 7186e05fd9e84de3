use Rattle.std.proofs.Common.{◌≡◌, ◌<◌, true, length, map, Some, sym, subst, arith}
use Rattle.type_hierarchy.specs.Named.{type_named}
use Rattle.grammar_files.specs.Placings.{placed_of}
use Rattle.constraint_expand.specs.Statements.{defines_type, name_of}
use Rattle.type_facts.proofs.ListLemmas.{true_not_false}
use Rattle.constraint_expand.proofs.FirstLemmas.{at_placed, none_next}
use Rattle.constraint_expand.proofs.splits.definition_of.Goals as goal

pub loop-i-preserved : goal.loop-i-preserved
loop-i-preserved c =
    let xs = c.args.statements.now in
    let i = c.loop-i.i in
    let within : i < length xs = omega arith in
    let here = at_placed xs i c.index-statements-i.result within c.index-statements-i.is in
    none_next defines_type (map placed_of xs) (λ p. type_named c.args.types.now (name_of p) ≡ Some c.args.t.0) i c.loop-i.invariant
    (subst (λ p. defines_type p ≡ true → type_named c.args.types.now (name_of p) ≡ Some c.args.t.0 → ⊥) (sym here)
    (λ d e. true_not_false _ (c.defines_number.ensures.1 (d, e)) c.if-defines_number.false))
