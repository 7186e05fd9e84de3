-- Ranks of types along parents.
use Rattle.std.specs.Prelude.{ℕ, ◌<◌, ◌≤◌, List, [], slice_index_or}
use Rattle.type_hierarchy.specs.Order.{Has}

abbrev pub rank_of : List ℕ → ℕ → ℕ
rank_of ranks t = slice_index_or ranks t 0

-- no parent has a higher rank
abbrev pub NeverRise : List (List ℕ) → List ℕ → Type 0
NeverRise parents ranks = (t p : ℕ) → Has p (slice_index_or parents t []) → rank_of ranks p ≤ rank_of ranks t

abbrev pub AreBelow : List ℕ → List ℕ → ℕ → Type 0
AreBelow ranks types bound = (p : ℕ) → Has p types → rank_of ranks p < bound
