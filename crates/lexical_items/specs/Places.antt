-- The places of entries and of lexical rules, which lexicons, spellings and chains number in order of place.
use Rattle.std.specs.Prelude.{ℕ, ◌≡◌, ◌<◌, Some, List, slice_get, slice_index_or}
use Rattle.chart_model.specs.At.{At}
use Rattle.tree_model.specs.Signs.{Kind, Instance, Signs}

-- a list has the places of the instances of a kind, in order
pub record ArePlaces (g : Signs) (kind : Kind) (places : List ℕ) : Type 0 where
  pub each : (n p : ℕ) → At places n p → (i : Instance) × (slice_get g.instances p ≡ Some i) × (i.kind ≡ kind)
  pub all : (p : ℕ) (i : Instance) → slice_get g.instances p ≡ Some i → i.kind ≡ kind → (n : ℕ) × At places n p
  pub rising : (n m p q : ℕ) → At places n p → At places m q → n < m → p < q

-- the place of a number
abbrev pub place_in : List ℕ → ℕ → ℕ
place_in places n = slice_index_or places n 0
