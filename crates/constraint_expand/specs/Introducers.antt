-- The introducer of a feature, and what stands in its place where there is none (Copestake 2002, appropriate features).
use Rattle.std.specs.Prelude.{ℕ, ◌≡◌, ◌<◌, ◌≤◌, ◌⊎◌, true, List, map}
use Rattle.fs_model.specs.Claims.{Has}
use Rattle.type_hierarchy.specs.declared.types.Ty.{Ty}
use Rattle.type_hierarchy.specs.Table.{TypeTable, is_below}

abbrev pub numbers_of : List Ty → List ℕ
numbers_of types = map (λ t. t.0) types

-- the writer that is above all other writers
pub record IsIntroducer (types : TypeTable) (writers : List ℕ) (t : ℕ) : Type 0 where
  pub writes : Has t writers
  pub above : (u : ℕ) → Has u writers → is_below types u t ≡ true

-- a writer that no other writer is above
pub record IsMostGeneral (types : TypeTable) (writers : List ℕ) (t : ℕ) : Type 0 where
  pub writes : Has t writers
  pub highest : (u : ℕ) → Has u writers → is_below types t u ≡ true → u ≡ t

-- the first two most general writers, by their numbers
pub record AreFirstTwo (types : TypeTable) (writers : List ℕ) (a b : ℕ) : Type 0 where
  pub first : IsMostGeneral types writers a
  pub second : IsMostGeneral types writers b
  pub in_order : a < b
  pub others : (t : ℕ) → IsMostGeneral types writers t → (t ≡ a) ⊎ (b ≤ t)
