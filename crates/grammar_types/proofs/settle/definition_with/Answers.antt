use Rattle.std.proofs.Common.{map, MatchOption, sym, subst}
use Rattle.std.specs.String.{string_bytes}
use Rattle.grammar_files.specs.Placings.{PlacedTree, placed_of}
use Rattle.grammar_types.specs.Typings.{type_definitions, StandsAt}
use Rattle.grammar_types.proofs.SettleFaults.{named_with}
use Rattle.grammar_types.proofs.settle.definition_with.Goals as goal

pub returns-in-Unknown : goal.returns-in-Unknown
returns-in-Unknown c =
    let ds = type_definitions (map placed_of c.args.statements.now) in
    subst (λ f. MatchOption c.definition_of.result ((p : PlacedTree) → StandsAt ds f p → ⊥) (λ p. StandsAt ds f (placed_of p.now))) (sym c.in-Unknown.is)
    (named_with ds (string_bytes c.in-Unknown.name) _ _ c.as_str.ensures.value c.definition_of.ensures)

pub returns-in-Cycle : goal.returns-in-Cycle
returns-in-Cycle c =
    let ds = type_definitions (map placed_of c.args.statements.now) in
    subst (λ f. MatchOption c.definition_of-in-Cycle.result ((p : PlacedTree) → StandsAt ds f p → ⊥) (λ p. StandsAt ds f (placed_of p.now))) (sym c.in-Cycle.is)
    (named_with ds (string_bytes c.in-Cycle.name) _ _ c.as_str-in-Cycle.ensures.value c.definition_of-in-Cycle.ensures)

pub returns-in-Reserved : goal.returns-in-Reserved
returns-in-Reserved c =
    let ds = type_definitions (map placed_of c.args.statements.now) in
    subst (λ f. MatchOption c.definition_of-in-Reserved.result ((p : PlacedTree) → StandsAt ds f p → ⊥) (λ p. StandsAt ds f (placed_of p.now))) (sym c.in-Reserved.is)
    (named_with ds (string_bytes c.in-Reserved.name) _ _ c.as_str-in-Reserved.ensures.value c.definition_of-in-Reserved.ensures)
