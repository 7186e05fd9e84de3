-- What a phrase rule makes by its place, and by its number.
use Rattle.std.proofs.Common.{ℕ, ◌≡◌, ◌<◌, ◌∙◌, List, length, Option, refl, sym, subst}
use Rattle.std.specs.Prelude.{slice_get, slice_index_or, MatchOption}
use Rattle.tree_model.specs.Structures.{Structure}
use Rattle.tree_model.specs.Laws.{rules_full}
use Rattle.tree_model.specs.Signs.{rule_system, placed_rules, place_at}
use Rattle.book_signs.specs.Trees.{SignTree, signs_of, phrase_rules_of}
use Rattle.rule_trees.specs.Mothers.{view_in, IsMother, HasDaughters}
use Rattle.rule_trees.specs.Fulls.{FullTree}
use Rattle.rule_trees.specs.Wholes.{IsRuled}
use Rattle.rule_trees.proofs.LineLemmas.{named_place, phrase_daughters, full_numbered, full_placed, match_both}
use Rattle.grammar_rules.specs.Told.{TellsMother}

-- the place that stands under a phrase rule's number
module _ (t : SignTree) (rule place : ℕ) (is : place ≡ place_at (slice_get (placed_rules (signs_of t)) rule)) (low : rule < length (rule_system (signs_of t)).rules) where
  here : slice_index_or (phrase_rules_of (signs_of t)) rule 0 ≡ place
  here = named_place (signs_of t) (phrase_rules_of (signs_of t)) rule 0 refl low ∙ sym is

  pub daughters_at : (count : ℕ) → IsRuled (signs_of t) rule count → HasDaughters (signs_of t) place count
  daughters_at count ruled = subst (λ p. HasDaughters (signs_of t) p count) here (phrase_daughters (signs_of t) (phrase_rules_of (signs_of t)) rule 0 count refl ruled)

  pub by_number : (fs : List Structure) (told : Option FullTree) → TellsMother t place fs told
      → MatchOption told ((v : Structure) → rules_full (rule_system (signs_of t)) rule fs v → ⊥) (λ full. rules_full (rule_system (signs_of t)) rule fs (view_in t full.graph))
  by_number fs told = match_both told
      (λ no v h. no v (subst (λ p. IsMother (signs_of t) p fs v) here (full_placed (signs_of t) (phrase_rules_of (signs_of t)) rule 0 fs v refl low h)))
      (λ full h. full_numbered (signs_of t) (phrase_rules_of (signs_of t)) rule 0 fs (view_in t full.graph) refl low (subst (λ p. IsMother (signs_of t) p fs (view_in t full.graph)) (sym here) h))
