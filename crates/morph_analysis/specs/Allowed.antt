-- Which lexical rule may apply to which entry, and to what which rule gives. Both are numbered in order of place.
use Rattle.std.specs.Prelude.{ℕ, zero, suc, ◌≡◌, ◌==◌, ◌&&◌, not, Bool, true, List, [], ◌∷◌}

-- A table for entries and one for rules, with a row for each: whether each rule may apply.
pub record FeedsTree : Type 0 where
  pub entries : ℕ
  pub rules : ℕ
  pub on_entry : List (List Bool)
  pub on_rule : List (List Bool)

-- what a table says of a rule in a row; what is outside of it may apply
abbrev pub in_row : List Bool → ℕ → Bool
in_row [] n = true
in_row (b ∷ bs) zero = b
in_row (b ∷ bs) (suc n) = in_row bs n

abbrev pub in_table : List (List Bool) → ℕ → ℕ → Bool
in_table [] n m = true
in_table (r ∷ rs) zero m = in_row r m
in_table (r ∷ rs) (suc n) m = in_table rs n m

-- each rule of a list may apply to what the one before it gives
abbrev pub AreAllowedAfter : FeedsTree → ℕ → List ℕ → Type 0
AreAllowedAfter f inner [] = Unit {0}
AreAllowedAfter f inner (r ∷ rs) = (in_table f.on_rule inner r ≡ true) × AreAllowedAfter f r rs

-- a chain is allowed where its first rule may apply to the entry, and each further rule to what the one before it gives
abbrev pub IsAllowed : FeedsTree → ℕ → List ℕ → Type 0
IsAllowed f entry [] = Unit {0}
IsAllowed f entry (r ∷ rs) = (in_table f.on_entry entry r ≡ true) × AreAllowedAfter f r rs

-- whether a rule may apply to what an entry and some rules give
abbrev pub may_go_on : FeedsTree → ℕ → List ℕ → ℕ → Bool
may_go_on f entry [] rule = in_table f.on_entry entry rule
may_go_on f entry (r ∷ []) rule = in_table f.on_rule r rule
may_go_on f entry (r ∷ q ∷ rs) rule = may_go_on f entry (q ∷ rs) rule

-- everything may
abbrev pub AllMay : List (List Bool) → Type 0
AllMay table = (row rule : ℕ) → in_table table row rule ≡ true

-- the same may
abbrev pub SameMay : List (List Bool) → List (List Bool) → Type 0
SameMay old new = (row rule : ℕ) → in_table new row rule ≡ in_table old row rule

-- the same may but for one rule in one row
abbrev pub MayBut : List (List Bool) → ℕ → ℕ → List (List Bool) → Type 0
MayBut old r p new = (row rule : ℕ) → in_table new row rule ≡ (in_table old row rule && not ((row == r) && (rule == p)))
