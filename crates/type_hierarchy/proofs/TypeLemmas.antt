-- Completed types as rows of bits.
use Rattle.std.proofs.Common.{ℕ, zero, suc, ◌≡◌, ◌≢◌, ◌≤◌, ◌<◌, ◌+◌, ◌==◌, ◌&&◌, ◌||◌, not, ◌⊎◌, inl, inr, Bool, true, false, cond, Option, List, [], ◌∷◌, length, map, slice_index_or, nat_lt, Vec, String, All, ◌↔◌, refl, sym, ◌∙◌, ap, subst, arith}
use Rattle.std.specs.Prelude.{position, Some, None}
use Rattle.std.specs.Global.{Global}
use Rattle.std.specs.List.{prefix_len}
use Rattle.std.specs.Str.{bytes_eq}
use Rattle.std.proofs.lemmas.Bool.{cases_lt}
use Rattle.std.proofs.lemmas.List.{length-map, get_or_read}
use Rattle.std.proofs.lemmas.Slice.Eq.{bytes_eq-Decides}
use Rattle.type_hierarchy.specs.Bits.{has_bit, bits_below, IsRow}
use Rattle.type_hierarchy.specs.Table.{TypeTable, set_of, has_member, is_subset, intersection, is_same, is_set_below, is_below, type_of_set, meet_of}
use Rattle.type_hierarchy.specs.Laws.{IsOrder}
use Rattle.type_hierarchy.specs.Inner.Marks.{IsMark, AreMarks}
use Rattle.type_hierarchy.specs.Inner.Tables.{types_table, row_items, place_of_common}
use Rattle.type_hierarchy.proofs.BitLemmas.{words_same}
use Rattle.type_hierarchy.proofs.ListLemmas.{position-map}
use Rattle.type_hierarchy.proofs.SetLemmas.{differ, bool_cases, same_bools, eq_false, member_bits, member_bits_past, member_intersection, rising_filter, rising_intersection, rising_same, and_both, and_left, and_right, lt_false, empty_of, position_some, position_at}
use Rattle.type_hierarchy.proofs.LawLemmas.{below_sets, below_string, set_below, set_below_members, meet_sets, meet_string, found_set, same_sets}

-- the members of an intersection of rows
pub common_is : (n : ℕ) (words x y : List ℕ) → ((z : ℕ) → has_bit words z ≡ (has_bit x z && has_bit y z)) → intersection (bits_below n x) (bits_below n y) ≡ bits_below n words
common_is n words x y e = rising_same n _ _ (rising_intersection n (bits_below n x) (bits_below n y) (rising_filter (λ z. has_bit x z) n)) (rising_filter (λ z. has_bit words z) n)
    (λ z h. member_intersection (bits_below n x) (bits_below n y) z ∙ ap (λ b. b && has_member (bits_below n x) z) (member_bits n y z h) ∙ ap (λ b. has_bit y z && b) (member_bits n x z h)
    ∙ swap (has_bit y z) (has_bit x z) ∙ sym (e z) ∙ sym (member_bits n words z h))
  where
    swap : (a b : Bool) → (a && b) ≡ (b && a)
    swap true true = refl
    swap true false = refl
    swap false true = refl
    swap false false = refl

-- rows are known by their members
pub row_known : (n : ℕ) (a b : List ℕ) → IsRow n a → IsRow n b → bits_below n a ≡ bits_below n b → a ≡ b
row_known n a b r s e = words_same a b r.words_fit s.words_fit (omega (arith, r.enough, r.spare, s.enough, s.spare)) (λ x. bit x (cases_lt x n))
  where
    bit : (x : ℕ) → (x < n) ⊎ (n ≤ x) → has_bit a x ≡ has_bit b x
    bit x (inl h) = sym (member_bits n a x h) ∙ ap (λ l. has_member l x) e ∙ member_bits n b x h
    bit x (inr h) = r.none_past x h ∙ sym (s.none_past x h)

same_prefix : {X : Type 0} (p q : X → Bool) (xs : List X) → ((k : ℕ) (d : X) → k < length xs → p (slice_index_or xs k d) ≡ q (slice_index_or xs k d)) → prefix_len p xs ≡ prefix_len q xs
same_prefix p q [] h = refl
same_prefix p q (x ∷ xs) h = ap (λ b. cond b (1 + prefix_len p xs) 0) (h 0 x (omega arith)) ∙ ap (λ n. cond (q x) (1 + n) 0) (same_prefix p q xs (λ k d l. h (suc k) d (omega arith)))

pub position_same : {X : Type 0} (p q : X → Bool) (xs : List X) → ((k : ℕ) (d : X) → k < length xs → p (slice_index_or xs k d) ≡ q (slice_index_or xs k d)) → position p xs ≡ position q xs
position_same p q xs h = ap (λ n. cond (nat_lt n (length xs)) (Some n) None) (same_prefix (λ x. not (p x)) (λ x. not (q x)) xs (λ k d l. ap not (h k d l)))

pub found_common : (n : ℕ) (keys : List (Vec ℕ Global)) (words x y : List ℕ) → All (λ row. IsRow n row.items) keys → IsRow n words →
    ((z : ℕ) → has_bit words z ≡ (has_bit x z && has_bit y z)) → position (λ k. bytes_eq words k.items) keys ≡ place_of_common n keys x y
found_common n keys words x y rows row e =
    position_same (λ k. bytes_eq words k.items) (λ k. is_same (intersection (bits_below n x) (bits_below n y)) (bits_below n k.items)) keys (λ i d h. test (slice_index_or keys i d) (rows i d h))
    ∙ sym (position-map (is_same (intersection (bits_below n x) (bits_below n y))) (λ k. bits_below n k.items) keys)
  where
    test : (k : Vec ℕ Global) → IsRow n k.items → bytes_eq words k.items ≡ is_same (intersection (bits_below n x) (bits_below n y)) (bits_below n k.items)
    test k r = same_bools _ _
        (λ f. (bytes_eq-Decides (intersection (bits_below n x) (bits_below n y)) (bits_below n k.items)).1 (common_is n words x y e ∙ ap (bits_below n) ((bytes_eq-Decides words k.items).0 f)))
        (λ f. (bytes_eq-Decides words k.items).1 (row_known n words k.items row r (sym (common_is n words x y e) ∙ (bytes_eq-Decides (intersection (bits_below n x) (bits_below n y)) (bits_below n k.items)).0 f)))

pub set_row : (n : ℕ) (keys : List (Vec ℕ Global)) (k : ℕ) → k < length keys → slice_index_or (map (λ row. bits_below n row.items) keys) k [] ≡ bits_below n (row_items keys k)
set_row n [] k h = absurd (omega arith)
set_row n (r ∷ rows) zero h = refl
set_row n (r ∷ rows) (suc k) h = set_row n rows k (omega arith)

-- no type stands for the empty set
pub none_common : (n : ℕ) (keys : List (Vec ℕ Global)) (x y : List ℕ) → ((z : ℕ) → (has_bit x z && has_bit y z) ≡ false) →
    ((k : ℕ) → k < length keys → bits_below n (row_items keys k) ≢ []) → place_of_common n keys x y ≡ None
none_common n keys x y apart filled = go (place_of_common n keys x y) refl
  where
    empty : intersection (bits_below n x) (bits_below n y) ≡ []
    empty = empty_of _ (λ z m. bad z (cases_lt z n) m)
      where
        bad : (z : ℕ) → (z < n) ⊎ (n ≤ z) → has_member (intersection (bits_below n x) (bits_below n y)) z ≡ true → ⊥
        bad z (inl h) m =
            let both = sym (member_intersection (bits_below n x) (bits_below n y) z) ∙ m in
            differ _ (and_both (has_bit x z) (has_bit y z) (sym (member_bits n x z h) ∙ and_right (has_member (bits_below n y) z) _ both) (sym (member_bits n y z h) ∙ and_left (has_member (bits_below n y) z) _ both)) (apart z)
        bad z (inr h) m = differ _ (and_left (has_member (bits_below n y) z) _ (sym (member_intersection (bits_below n x) (bits_below n y) z) ∙ m)) (member_bits_past n y z h)

    go : (o : Option ℕ) → place_of_common n keys x y ≡ o → place_of_common n keys x y ≡ None
    go None e = e
    go (Some m) e =
        let f = position_some (is_same (intersection (bits_below n x) (bits_below n y))) (map (λ row. bits_below n row.items) keys) m [] e in
        let in' : m < length keys = omega (arith, f.0, length-map keys (λ row. bits_below n row.items)) in
        absurd (filled m in' (sym (set_row n keys m in') ∙ sym ((bytes_eq-Decides (intersection (bits_below n x) (bits_below n y)) (slice_index_or (map (λ row. bits_below n row.items) keys) m [])).0 f.1) ∙ empty))

-- a written type is at or below a type whose set has it
pub member_below : (t : TypeTable) (o : IsOrder t) (a b : ℕ) → a < t.written → b < length t.sets → has_member (set_of t b) a ≡ is_set_below t a b
member_below t o a b h k = same_bools _ _
    (λ m. set_below t a b k (λ x l. o.down a b x h k m l))
    (λ e. set_below_members t a b a e (o.own a h))

-- the meet of a type and one at or above it
pub meet_lower : (t : TypeTable) (o : IsOrder t) (a b : ℕ) → is_below t a b ≡ true → meet_of t a b ≡ Some a
meet_lower t o a b e = go (cases_lt a (length t.sets)) (cases_lt b (length t.sets))
  where
    go : (a < length t.sets) ⊎ (length t.sets ≤ a) → (b < length t.sets) ⊎ (length t.sets ≤ b) → meet_of t a b ≡ Some a
    go (inr h) _ = meet_string t a b (inl h) ∙ ap (λ p. cond p (Some a) (cond (is_below t b a) (Some b) None)) e
    go (inl h) (inr k) = meet_string t a b (inr k) ∙ ap (λ p. cond p (Some a) (cond (is_below t b a) (Some b) None)) e
    go (inl h) (inl k) = meet_sets t a b h k ∙ found
      where
        sub : (x : ℕ) → has_member (set_of t a) x ≡ true → has_member (set_of t b) x ≡ true
        sub x m = set_below_members t a b x (sym (below_sets t a b h) ∙ e) m

        is : intersection (set_of t a) (set_of t b) ≡ set_of t a
        is = rising_same t.written _ _ (rising_intersection t.written _ _ (o.rising a h)) (o.rising a h)
            (λ x l. member_intersection (set_of t a) (set_of t b) x ∙ implied (has_member (set_of t b) x) (has_member (set_of t a) x) (sub x))
          where
            and_true : (b : Bool) → (b && true) ≡ b
            and_true true = refl
            and_true false = refl

            implied : (q p : Bool) → (p ≡ true → q ≡ true) → (q && p) ≡ p
            implied q true f = and_true q ∙ f refl
            implied true false f = refl
            implied false false f = refl

        found : type_of_set t (intersection (set_of t a) (set_of t b)) ≡ Some a
        found =
            let at = position_at (is_same (intersection (set_of t a) (set_of t b))) t.sets a [] h ((bytes_eq-Decides (intersection (set_of t a) (set_of t b)) (set_of t a)).1 is) in
            let f = found_set t _ at.0 at.1 in
            at.1 ∙ ap Some (same_sets t o at.0 a f.0 h (f.1 ∙ is))

pub meet_swaps : (t : TypeTable) (o : IsOrder t) (a b : ℕ) → is_below t a b ≡ false → is_below t b a ≡ true → meet_of t a b ≡ Some b
meet_swaps t o a b no' e = go (cases_lt a (length t.sets)) (cases_lt b (length t.sets))
  where
    strings : (length t.sets ≤ a) ⊎ (length t.sets ≤ b) → meet_of t a b ≡ Some b
    strings h = meet_string t a b h ∙ ap (λ p. cond p (Some a) (cond (is_below t b a) (Some b) None)) no' ∙ ap (λ p. cond p (Some b) None) e

    go : (a < length t.sets) ⊎ (length t.sets ≤ a) → (b < length t.sets) ⊎ (length t.sets ≤ b) → meet_of t a b ≡ Some b
    go (inr h) _ = strings (inl h)
    go (inl h) (inr k) = strings (inr k)
    go (inl h) (inl k) = meet_sets t a b h k ∙ ap (type_of_set t) swapped ∙ sym (meet_sets t b a k h) ∙ meet_lower t o b a e
      where
        swap : (p q : Bool) → (p && q) ≡ (q && p)
        swap true true = refl
        swap true false = refl
        swap false true = refl
        swap false false = refl

        swapped : intersection (set_of t a) (set_of t b) ≡ intersection (set_of t b) (set_of t a)
        swapped = rising_same t.written _ _ (rising_intersection t.written _ _ (o.rising a h)) (rising_intersection t.written _ _ (o.rising b k))
            (λ x l. member_intersection (set_of t a) (set_of t b) x ∙ swap (has_member (set_of t b) x) (has_member (set_of t a) x) ∙ sym (member_intersection (set_of t b) (set_of t a) x))

pub no_meet : (t : TypeTable) (a b : ℕ) → (length t.sets ≤ a) ⊎ (length t.sets ≤ b) → is_below t a b ≡ false → is_below t b a ≡ false → meet_of t a b ≡ None
no_meet t a b h e f = meet_string t a b h ∙ ap (λ p. cond p (Some a) (cond (is_below t b a) (Some b) None)) e ∙ ap (λ p. cond {A = Option ℕ} p (Some b) None) f

pub row_at_is : (n : ℕ) (keys : List (Vec ℕ Global)) (k : ℕ) → All (λ row. IsRow n row.items) keys → k < length keys → IsRow n (row_items keys k)
row_at_is n [] k all h = absurd (omega arith)
row_at_is n (r ∷ keys) zero all h = all 0 r (omega arith)
row_at_is n (r ∷ keys) (suc k) all h = row_at_is n keys k (λ i d l. all (suc i) d (omega arith)) (omega arith)

pub same_size : (n : ℕ) (a b : List ℕ) → IsRow n a → IsRow n b → length a ≡ length b
same_size n a b r s = omega (arith, r.enough, r.spare, s.enough, s.spare)

pub found_within : (n : ℕ) (keys : List (Vec ℕ Global)) (x y : List ℕ) (m : ℕ) → Some m ≡ place_of_common n keys x y → m < length keys
found_within n keys x y m e =
    let f = position_some (is_same (intersection (bits_below n x) (bits_below n y))) (map (λ row. bits_below n row.items) keys) m [] (sym e) in
    omega (arith, f.0, length-map keys (λ row. bits_below n row.items))

-- at or below, by rows
pub string_below : (t : TypeTable) (a b : ℕ) → length t.sets ≤ a → b < length t.sets → is_below t a b ≡ is_set_below t t.string_type b
string_below t a b h k = below_string t a b h ∙ ap (λ p. p || is_set_below t t.string_type b) (eq_false a b (λ e. omega arith))

pub added_below : (t : TypeTable) (a b : ℕ) (p : Bool) → b < length t.sets →
    (p ≡ true → (x : ℕ) → has_member (set_of t a) x ≡ true → has_member (set_of t b) x ≡ true) →
    (((x : ℕ) → has_member (set_of t a) x ≡ true → has_member (set_of t b) x ≡ true) → p ≡ true) → p ≡ is_set_below t a b
added_below t a b p k f g = same_bools _ _ (λ e. set_below t a b k (f e)) (λ e. g (λ x m. set_below_members t a b x e m))

pub not_set_below : (t : TypeTable) (a b : ℕ) → (((x : ℕ) → has_member (set_of t a) x ≡ true → has_member (set_of t b) x ≡ true) → ⊥) → is_set_below t a b ≡ false
not_set_below t a b no' = go (bool_cases (is_set_below t a b))
  where
    go : (is_set_below t a b ≡ true) ⊎ (is_set_below t a b ≡ false) → is_set_below t a b ≡ false
    go (inl e) = absurd (no' (λ x m. set_below_members t a b x e m))
    go (inr e) = e

-- the mark of a row, as it is read
pub mark_read : (keys : List (Vec ℕ Global)) (marks : List ℕ) (k mark : ℕ) → AreMarks keys marks → k < length keys → mark ≡ slice_index_or marks k mark → IsMark (row_items keys k) mark
mark_read keys marks k mark m h e = subst (IsMark (row_items keys k)) (sym (get_or_read marks k mark (omega (arith, m.one_each)) e 0)) (m.each k h)

pub nothing_at_string : (t : TypeTable) (a b : ℕ) → length t.sets ≤ b → is_below t a b ≡ (a == b)
nothing_at_string t a b h = go (cases_lt a (length t.sets))
  where
    out : (s : ℕ) → is_set_below t s b ≡ false
    out s = ap (λ p. p && is_subset (set_of t s) (set_of t b)) (lt_false b (length t.sets) h)

    or_false : (p : Bool) → (p || false) ≡ p
    or_false true = refl
    or_false false = refl

    go : (a < length t.sets) ⊎ (length t.sets ≤ a) → is_below t a b ≡ (a == b)
    go (inl l) = below_sets t a b l ∙ out a ∙ sym (eq_false a b (λ e. omega arith))
    go (inr l) = below_string t a b l ∙ ap (λ p. (a == b) || p) (out t.string_type) ∙ or_false (a == b)

-- rows of a table of types
pub table_member : (names : List (String Global)) (keys : List (Vec ℕ Global)) (n s a x : ℕ) → a < length keys → x < n → has_member (set_of (types_table names keys n s) a) x ≡ has_bit (row_items keys a) x
table_member names keys n s a x h k = ap (λ l. has_member l x) (set_row n keys a h) ∙ member_bits n (row_items keys a) x k

pub table_subset : (names : List (String Global)) (keys : List (Vec ℕ Global)) (n s a b : ℕ) → a < length keys → b < length keys → All (λ row. IsRow n row.items) keys →
    ((x : ℕ) → has_bit (row_items keys a) x ≡ true → has_bit (row_items keys b) x ≡ true) ↔
    ((x : ℕ) → has_member (set_of (types_table names keys n s) a) x ≡ true → has_member (set_of (types_table names keys n s) b) x ≡ true)
table_subset names keys n s a b h k all =
    (λ f x m. there f x m (cases_lt x n), λ f x e. back f x e (cases_lt x n))
  where
    there : ((x : ℕ) → has_bit (row_items keys a) x ≡ true → has_bit (row_items keys b) x ≡ true) → (x : ℕ) → has_member (set_of (types_table names keys n s) a) x ≡ true → (x < n) ⊎ (n ≤ x) →
        has_member (set_of (types_table names keys n s) b) x ≡ true
    there f x m (inl l) = table_member names keys n s b x k l ∙ f x (sym (table_member names keys n s a x h l) ∙ m)
    there f x m (inr l) = absurd (differ _ m (ap (λ l. has_member l x) (set_row n keys a h) ∙ member_bits_past n (row_items keys a) x l))

    back : ((x : ℕ) → has_member (set_of (types_table names keys n s) a) x ≡ true → has_member (set_of (types_table names keys n s) b) x ≡ true) → (x : ℕ) → has_bit (row_items keys a) x ≡ true → (x < n) ⊎ (n ≤ x) →
        has_bit (row_items keys b) x ≡ true
    back f x e (inl l) = sym (table_member names keys n s b x k l) ∙ f x (table_member names keys n s a x h l ∙ e)
    back f x e (inr l) = absurd (differ _ e ((row_at_is n keys a all h).none_past x l))
