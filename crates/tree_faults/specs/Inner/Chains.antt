-- Phrases that are open in a walk over a tree, each the next daughter of the one before it; only private clauses cite it.
use Rattle.std.specs.Prelude.{ℕ, ◌≡◌, ◌<◌, ◌+◌, List, [], ◌∷◌, ◌++◌, Some, map, drop, slice_get}
use Rattle.std.specs.List.{sum_by}
use Rattle.derivation.specs.Trees.{Derivation, phrase}
use Rattle.derivation.specs.Views.{in_order}
use Rattle.derivation.proofs.Weights.{weights}
use Rattle.tree_faults.specs.Nodes.{Place}

-- an open phrase: its rule, its daughters from the left, and how many of these were passed
pub record Open : Type 0 where
  pub rule : ℕ
  pub daughters : List Derivation
  pub passed : ℕ

-- of values that each stand for an open phrase
module _ {O : Type 0} (open_of : O → Open) where
  -- the phrase that is open
  abbrev pub tree_of : O → Derivation
  tree_of o = phrase (open_of o).rule (in_order (open_of o).daughters)

  -- the daughter that comes next
  abbrev pub IsNext : O → Derivation → Type 0
  IsNext o d = slice_get (open_of o).daughters (open_of o).passed ≡ Some d

  -- each phrase is the next daughter of the one before it, from the whole tree on down to the last one
  abbrev pub IsBelow : Derivation → List O → O → Type 0
  IsBelow whole [] last = whole ≡ tree_of last
  IsBelow whole (o ∷ os) last = (d : Derivation) × (whole ≡ tree_of o) × IsNext o d × IsBelow d os last

  -- the number of the daughter that comes next
  abbrev pub next_number : O → ℕ
  next_number o = (open_of o).passed + 1

  -- the place of a phrase below these
  abbrev pub place_below : List O → Place
  place_below os = map next_number os

  -- the place of the daughter that comes next in the last one
  abbrev pub next_place : List O → O → Place
  next_place os last = place_below os ++ next_number last ∷ []

  -- this holds of what stands in the daughters that were passed, by a relation between a tree, a place and what stands there
  abbrev pub HoldsPassed : (Derivation → Place → Derivation → Type 0) → (Derivation → Type 0) → O → Type 0
  HoldsPassed At P o = (n : ℕ) (d : Derivation) (p : Place) (u : Derivation) → n < (open_of o).passed → slice_get (open_of o).daughters n ≡ Some d → At d p u → P u

  -- how far the walk still goes
  abbrev pub rest_of : ℕ → O → ℕ
  rest_of k o = weights (in_order (drop k (open_of o).daughters))

  abbrev pub left_in : O → ℕ
  left_in o = rest_of (open_of o).passed o + 1

  abbrev pub left_above : O → ℕ
  left_above o = rest_of (next_number o) o + 1

  abbrev pub left_of : List O → O → ℕ
  left_of os o = sum_by left_above os + left_in o
