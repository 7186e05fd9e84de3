-- Types of a list that have no common one.
use Rattle.std.specs.Prelude.{ℕ, ◌≡◌, ◌≤◌, None, List}
use Rattle.type_hierarchy.specs.Table.{TypeTable, meet_of}
use Rattle.fs_model.specs.Claims.{Has}
use Rattle.forced_types.specs.declared.closed_types.Apart.{Apart}

-- the least of the types that has no common one with a type
pub record IsApartFrom (types : TypeTable) (list : List ℕ) (t u : ℕ) : Type 0 where
  pub has : Has u list
  pub apart : meet_of types t u ≡ None
  pub least : (v : ℕ) → Has v list → meet_of types t v ≡ None → u ≤ v

-- the two of least number
pub record IsLeastApart (types : TypeTable) (list : List ℕ) (a : Apart) : Type 0 where
  pub has : Has a.first list
  pub second : IsApartFrom types list a.first a.second
  pub least : (t u : ℕ) → Has t list → Has u list → meet_of types t u ≡ None → a.first ≤ t
