-- Readings: derivations over leaves, with their full structures (Oepen and Carroll 2000: unpacking).
use Rattle.std.specs.Prelude.{◌≡◌, ℕ, ◌<◌, ◌≤◌, Some, List, [], ◌∷◌, length}
use Rattle.std.specs.List.{Contains}
use Rattle.std.specs.declared.cmp.Ordering.TheVariants.{Less}
use Rattle.chart_model.specs.Calculus.{Calculus}
use Rattle.chart_model.specs.At.{At}
use Rattle.chart_model.specs.Chart.{Leaf, Limits}
use Rattle.chart_model.specs.Classes.{Class, class_covers, class_shapes, class_level}
use Rattle.derivation.specs.Trees.{Derivation, Daughters, phrase, no_more, first}
use Rattle.derivation.specs.Order.{compare_trees}

-- what an object of fulls knows, in plain values: `V` are full structures, `C` are covers
pub record Wholes (V C : Type 0) : Type 1 where
  -- the full structure and the tree of a leaf of this name
  pub leaf_full : ℕ → V
  pub leaf_tree : ℕ → Derivation
  -- the full structure under a rule over daughters of these, where there is one
  pub full : ℕ → List V → V → Type 0
  -- the place of a rule
  pub place : ℕ → ℕ
  -- whether a tree of this full structure and cover is asked for
  pub accepted : V → C → Type 0

mutual
  -- the derivation is one over the leaves, with this cover, level and full structure
  pub data IsReading {M C V : Type 0} (k : Calculus M C) (w : Wholes V C) (limits : Limits) (leaves : List (Leaf M C)) : Derivation → Class V C → Type 0 where
    reading_leaf : (l : ℕ) (leaf : Leaf M C) → At leaves l leaf → IsReading k w limits leaves (w.leaf_tree leaf.name) (record { cover = leaf.cover; level = 0; shape = w.leaf_full leaf.name })
    reading_phrase : (rule : ℕ) (ts : Daughters) (ds : List (Class V C)) (c : C) (v : V) → rule < k.rules → length ds ≡ k.arity rule → AreReadings k w limits leaves ts ds → k.covers rule (class_covers ds) ≡ Some c → w.full rule (class_shapes ds) v → IsReading k w limits leaves (phrase (w.place rule) ts) (record { cover = c; level = class_level ds; shape = v })

  -- each is such a derivation, of level at most the limit
  pub data AreReadings {M C V : Type 0} (k : Calculus M C) (w : Wholes V C) (limits : Limits) (leaves : List (Leaf M C)) : Daughters → List (Class V C) → Type 0 where
    no_readings : AreReadings k w limits leaves no_more []
    more_readings : (t : Derivation) (ts : Daughters) (d : Class V C) (ds : List (Class V C)) → IsReading k w limits leaves t d → d.level ≤ limits.unary → AreReadings k w limits leaves ts ds → AreReadings k w limits leaves (first t ts) (d ∷ ds)

-- a reading that is asked for
pub record IsAccepted {M C V : Type 0} (k : Calculus M C) (w : Wholes V C) (limits : Limits) (leaves : List (Leaf M C)) (t : Derivation) : Type 0 where
  pub class : Class V C
  pub reading : IsReading k w limits leaves t class
  pub accepted : w.accepted class.shape class.cover

-- each comes strictly before the next, in the order of trees
pub data Rises : List Derivation → Type 0 where
  rises_none : Rises []
  rises_one : (t : Derivation) → Rises (t ∷ [])
  rises_more : (t u : Derivation) (ts : List Derivation) → compare_trees t u ≡ Less → Rises (u ∷ ts) → Rises (t ∷ u ∷ ts)

-- all that are asked for and no others, each once, in the order of trees
pub record AreAllAccepted {M C V : Type 0} (k : Calculus M C) (w : Wholes V C) (limits : Limits) (leaves : List (Leaf M C)) (ts : List Derivation) : Type 0 where
  pub each : (t : Derivation) → Contains ts t → IsAccepted k w limits leaves t
  pub all : (t : Derivation) → IsAccepted k w limits leaves t → Contains ts t
  pub in_order : Rises ts

-- more than `max` are asked for: so many that differ
pub record AreMoreThan {M C V : Type 0} (k : Calculus M C) (w : Wholes V C) (limits : Limits) (leaves : List (Leaf M C)) (max : ℕ) : Type 0 where
  pub some : List Derivation
  pub many : max < length some
  pub each : (t : Derivation) → Contains some t → IsAccepted k w limits leaves t
  pub in_order : Rises some
