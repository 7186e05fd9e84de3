-- Which of some told trees are leaves, and which are too deep, by their predicates and the numbers of their rules.
use Rattle.std.specs.Prelude.{ℕ, ◌≡◌, nat_le, ◌||◌, Bool, true, false, if◌then◌else◌, List, [], ◌∷◌}
use Rattle.chart_model.specs.declared.counts.Counts.{Counts}
use Rattle.derivation.specs.Trees.{Derivation}
use Rattle.generate_model.specs.Bags.{Word, BagTree, holds, tally, empties}
use Rattle.tree_model.specs.Lexical.{rule_count}
use Rattle.generated_leaves.specs.Told.{ToldWord}
use Rattle.generated_leaves.specs.Leaves.{WordLeaf, GenLexical, TooDeep, Leaves}
use Rattle.generated_leaves.specs.declared.leaves.Fit.{Fit}
use Rattle.generated_leaves.specs.declared.leaves.Fit.TheVariants.{Not, Deep, Leaf}

module _ (b : BagTree) where
  abbrev pub cover_of : List Word → Counts
  cover_of preds = record { of = tally b.places preds; empty = empties preds }

  abbrev pub leaf_at : ToldWord → WordLeaf
  leaf_at x = record { tree = x.tree; cover = cover_of x.preds; full = x.full }

abbrev pub is_deep : Fit → Bool
is_deep Not = false
is_deep Deep = true
is_deep Leaf = false

module _ (b : BagTree) (most empty : ℕ) where
  -- a tree whose bag doesn't lie in the input's is none; one of more rules is too deep, with however many empty words
  abbrev pub fit_of : Derivation → List Word → Fit
  fit_of tree preds = if holds b preds then (if nat_le (rule_count tree) most then (if nat_le (empties preds) empty then Leaf else Not) else Deep) else Not

  abbrev pub fit_at : ToldWord → Fit
  fit_at x = fit_of x.tree x.preds

  abbrev pub kept : Fit → ToldWord → List WordLeaf → List WordLeaf
  kept Not x ls = ls
  kept Deep x ls = ls
  kept Leaf x ls = leaf_at b x ∷ ls

  -- the leaves among these, in their order
  abbrev pub picked : List ToldWord → List WordLeaf
  picked [] = []
  picked (x ∷ xs) = kept (fit_at x) x (picked xs)

  -- whether one of these is too deep
  abbrev pub some_deep : List ToldWord → Bool
  some_deep [] = false
  some_deep (x ∷ xs) = is_deep (fit_at x) || some_deep xs

  -- one of these is too deep, or none is and these are the leaves
  abbrev pub IsPicked : List ToldWord → GenLexical → Type 0
  IsPicked xs TooDeep = some_deep xs ≡ true
  IsPicked xs (Leaves ls) = (some_deep xs ≡ false) × (ls ≡ picked xs)
