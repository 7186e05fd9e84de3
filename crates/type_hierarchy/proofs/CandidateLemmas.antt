-- Written types that are at or below a type.
use Rattle.std.proofs.Common.{ℕ, ◌≡◌, ◌≤◌, ◌<◌, ◌⊎◌, inl, inr, true, false, List, length, Vec, sym, ◌∙◌, arith}
use Rattle.std.specs.Global.{Global}
use Rattle.std.proofs.lemmas.Bool.{cases_lt}
use Rattle.std.proofs.Common.{String}
use Rattle.type_hierarchy.specs.Bits.{has_bit}
use Rattle.type_hierarchy.specs.Table.{TypeTable, set_of, has_member, is_below}
use Rattle.type_hierarchy.specs.Laws.{IsOrder}
use Rattle.type_hierarchy.specs.Inner.Tables.{types_table, row_items}
use Rattle.type_hierarchy.proofs.SetLemmas.{differ, subset_elim, and_right, some_member, rising_below}
use Rattle.type_hierarchy.proofs.TypeLemmas.{string_below, table_member}
use Rattle.type_hierarchy.proofs.LawLemmas.{below_sets}

-- the string type is in each set that stands above a string
pub string_in : (t : TypeTable) (o : IsOrder t) (a b : ℕ) → length t.sets ≤ a → b < length t.sets → is_below t a b ≡ true → has_member (set_of t b) t.string_type ≡ true
string_in t o a b past h e = subset_elim _ _ t.string_type (and_right _ _ (sym (string_below t a b past h) ∙ e)) (o.own t.string_type o.string_in)

-- a member of a set is in each set that stands above it
pub member_in : (t : TypeTable) (o : IsOrder t) (a b x : ℕ) → a < length t.sets → has_member (set_of t a) x ≡ true → is_below t a b ≡ true → has_member (set_of t b) x ≡ true
member_in t o a b x h m e = subset_elim _ _ x (and_right _ _ (sym (below_sets t a b h) ∙ e)) m

-- a set has a member
pub some_bit : (names : List (String Global)) (keys : List (Vec ℕ Global)) (n s a x : ℕ) → IsOrder (types_table names keys n s) → a < length keys → a < length (types_table names keys n s).sets → x ≤ n →
    ((y : ℕ) → y < x → has_bit (row_items keys a) y ≡ false) → x < n
some_bit names keys n s a x o h h' low none = go (cases_lt x n)
  where
    go : (x < n) ⊎ (n ≤ x) → x < n
    go (inl l) = l
    go (inr l) =
        let m = some_member _ (o.nonempty a h') in
        let m_in : m.0 < n = rising_below n _ m.0 (o.rising a h') m.1 in
        absurd (differ _ (sym (table_member names keys n s a m.0 h m_in) ∙ m.1) (none m.0 (omega arith)))
