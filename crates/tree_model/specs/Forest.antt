-- How the grammar of a chart and the full structures of its trees belong together.
use Rattle.std.specs.Prelude.{◌≡◌, ℕ, ◌<◌, List, map}
use Rattle.chart_model.specs.Calculus.{Calculus}
use Rattle.chart_model.specs.At.{At}
use Rattle.chart_model.specs.Chart.{Chart, Leaf, Limits}
use Rattle.chart_model.specs.Finished.{IsComplete}
use Rattle.chart_model.specs.Grown.{HoldsTrees}
use Rattle.derivation.specs.Trees.{Derivation, lexical, phrase}
use Rattle.tree_model.specs.Readings.{Wholes}

abbrev pub IsLexical : Derivation → Type 0
IsLexical (lexical entry rules words nodes) = Unit {0}
IsLexical (phrase rule ts) = ⊥

-- full structures of the one kind are seen as the other's, and mothers stay mothers; leaves agree
pub record Agree {M C F V : Type 0} (k : Calculus M C) (full : ℕ → List F → F → Type 0) (agrees : M → F → Type 0) (w : Wholes V C) (leaves : List (Leaf M C)) : Type 0 where
  pub seen : V → F
  pub keeps : (rule : ℕ) (vs : List V) (v : V) → w.full rule vs v → full rule (map seen vs) (seen v)
  pub leaf_agrees : (l : ℕ) (leaf : Leaf M C) → At leaves l leaf → agrees leaf.shape (seen (w.leaf_full leaf.name))

-- leaves and rules are told apart by their trees and places, and daughters have one mother at most
pub record AreApart {M C V : Type 0} (k : Calculus M C) (w : Wholes V C) (leaves : List (Leaf M C)) : Type 0 where
  pub leaves_apart : (l m : ℕ) (a b : Leaf M C) → At leaves l a → At leaves m b → w.leaf_tree a.name ≡ w.leaf_tree b.name → l ≡ m
  pub lexical_leaves : (l : ℕ) (a : Leaf M C) → At leaves l a → IsLexical (w.leaf_tree a.name)
  pub places_apart : (q r : ℕ) → q < k.rules → r < k.rules → w.place q ≡ w.place r → q ≡ r
  pub one_full : (rule : ℕ) (vs : List V) (v u : V) → w.full rule vs v → w.full rule vs u → v ≡ u

-- the chart is complete over the leaves and holds their trees
pub record IsForest {M C F : Type 0} (k : Calculus M C) (full : ℕ → List F → F → Type 0) (agrees : M → F → Type 0) (limits : Limits) (leaves : List (Leaf M C)) (ch : Chart M C) : Type 0 where
  pub complete : IsComplete k limits leaves ch
  pub holds : HoldsTrees k full agrees limits leaves ch
