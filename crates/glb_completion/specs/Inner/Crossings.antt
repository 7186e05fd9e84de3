-- Types that stand immediately below one type alone, and the others.
use Rattle.std.specs.Prelude.{ℕ, ◌≡◌, ◌≢◌, ◌<◌, true, false, List, Vec}
use Rattle.std.specs.Global.{Global}
use Rattle.type_hierarchy.specs.Bits.{has_bit}
use Rattle.type_hierarchy.specs.Table.{TypeTable, set_of, has_member}
use Rattle.type_hierarchy.specs.Inner.Tables.{row_items}

-- the rows of what is above say so: what is above x is an earlier p and what is above p
pub record IsRowUnder (above : List (Vec ℕ Global)) (x p : ℕ) : Type 0 where
  pub earlier : p < x
  pub over : has_bit (row_items above x) p ≡ true
  pub only : (u : ℕ) → u ≢ x → has_bit (row_items above x) u ≡ true → has_bit (row_items above p) u ≡ true

-- x stands immediately below p alone, an earlier type
pub record IsUnder (h : TypeTable) (x p : ℕ) : Type 0 where
  pub earlier : p < x
  pub over : has_member (set_of h p) x ≡ true
  pub only : (u : ℕ) → u < h.written → u ≢ x → has_member (set_of h u) x ≡ true → has_member (set_of h u) p ≡ true

-- a row with each type that doesn't stand so
abbrev pub HasCrossings : TypeTable → List ℕ → Type 0
HasCrossings h row = (x : ℕ) → x < h.written → has_bit row x ≡ false → (p : ℕ) × IsUnder h x p
