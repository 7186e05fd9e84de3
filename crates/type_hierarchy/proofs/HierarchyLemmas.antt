-- What declarations without a fault give.
use Rattle.std.proofs.Common.{ℕ, zero, suc, ◌≡◌, ◌≢◌, ◌≤◌, ◌<◌, ◌+◌, ◌==◌, ◌⊎◌, inl, inr, Bool, true, false, cond, List, [], ◌∷◌, length, filter, map, slice_index_or, Vec, String, ◌↔◌, refl, sym, ◌∙◌, ap, subst, arith}
use Rattle.std.specs.Global.{Global}
use Rattle.std.specs.List.{range_with_len}
use Rattle.std.proofs.lemmas.Bool.{cases_lt}
use Rattle.std.proofs.lemmas.List.{length-map, get_or_past}
use Rattle.type_hierarchy.specs.Bits.{has_bit, bits_below}
use Rattle.type_hierarchy.specs.Order.{Has, IsAtOrBelow, itself, above_parent, IsBelow}
use Rattle.type_hierarchy.specs.Inner.Reach.{lists}
use Rattle.type_hierarchy.specs.Inner.Rows.{AreRows, HoldOrder, row_at}
use Rattle.type_hierarchy.specs.Table.{TypeTable, has_member}
use Rattle.type_hierarchy.specs.Laws.{IsRising}
use Rattle.type_hierarchy.specs.Inner.Tables.{hierarchy_table, IsHierarchyInside}
use Rattle.type_hierarchy.proofs.SetLemmas.{differ, bool_cases, eq_of, or_cases, member_bits, rising_filter, not_empty, member_range, rising_below}
use Rattle.type_hierarchy.proofs.BitLemmas.{has_bit-past}
use Rattle.std.specs.String.{string_bytes}

-- the order along parents
pub below_trans : (ps : List (List ℕ)) (a b c : ℕ) → IsAtOrBelow ps a b → IsAtOrBelow ps b c → IsAtOrBelow ps a c
below_trans ps a _ c (itself _) r = r
below_trans ps a b c (above_parent _ p _ h s) r = above_parent a p c h (below_trans ps p b c s r)

-- two types that are at or below one another are one, where none is below itself
pub below_anti : (ps : List (List ℕ)) (a b : ℕ) → (IsBelow ps a a → ⊥) → IsAtOrBelow ps a b → IsAtOrBelow ps b a → a ≡ b
below_anti ps a _ none (itself _) s = refl
below_anti ps a b none (above_parent _ p _ h r) s = absurd (none (p, h, below_trans ps p b a r s))

-- fewer pass a stricter test
fewer : (p q : ℕ → Bool) (xs : List ℕ) → ((x : ℕ) → p x ≡ true → q x ≡ true) → length (filter p xs) ≤ length (filter q xs)
fewer p q [] h = omega arith
fewer p q (x ∷ xs) h = go (bool_cases (p x)) (bool_cases (q x)) (fewer p q xs h)
  where
    go : (p x ≡ true) ⊎ (p x ≡ false) → (q x ≡ true) ⊎ (q x ≡ false) → length (filter p xs) ≤ length (filter q xs) →
        length (cond (p x) (x ∷ filter p xs) (filter p xs)) ≤ length (cond (q x) (x ∷ filter q xs) (filter q xs))
    go (inl e) (inl f) ih = rw (e, f) (omega arith)
    go (inl e) (inr f) ih = absurd (differ _ (h x e) f)
    go (inr e) (inl f) ih = rw (e, f) (omega arith)
    go (inr e) (inr f) ih = rw (e, f) ih

strictly_fewer : (p q : ℕ → Bool) (xs : List ℕ) (y : ℕ) → ((x : ℕ) → p x ≡ true → q x ≡ true) → has_member xs y ≡ true → p y ≡ false → q y ≡ true →
    length (filter p xs) < length (filter q xs)
strictly_fewer p q [] y h m e f = cc
strictly_fewer p q (x ∷ xs) y h m e f = go (λ k. strictly_fewer p q xs y h k e f) (or_cases (x == y) _ m) (bool_cases (p x)) (bool_cases (q x))
  where
    rest : length (filter p xs) ≤ length (filter q xs)
    rest = fewer p q xs h

    go : (has_member xs y ≡ true → length (filter p xs) < length (filter q xs)) → ((x == y) ≡ true) ⊎ (has_member xs y ≡ true) → (p x ≡ true) ⊎ (p x ≡ false) → (q x ≡ true) ⊎ (q x ≡ false) →
        length (cond (p x) (x ∷ filter p xs) (filter p xs)) < length (cond (q x) (x ∷ filter q xs) (filter q xs))
    go ih (inl s) _ _ = rw (ap p (eq_of x y s) ∙ e, ap q (eq_of x y s) ∙ f) (omega (arith, rest))
    go ih (inr k) (inl e') (inl f') = let l = ih k in rw (e', f') (omega arith)
    go ih (inr k) (inl e') (inr f') = absurd (differ _ (h x e') f')
    go ih (inr k) (inr e') (inl f') = let l = ih k in rw (e', f') (omega arith)
    go ih (inr k) (inr e') (inr f') = let l = ih k in rw (e', f') (omega arith)

-- an order in which each type but the first has a parent, and none is below itself
pub record IsRooted (ps : List (List ℕ)) (n : ℕ) : Type 0 where
  pub in_range : (t p : ℕ) → Has p (slice_index_or ps t []) → p < n
  pub no_cycle : (t : ℕ) → t < n → IsBelow ps t t → ⊥
  pub parent : (t : ℕ) → 0 < t → t < n → (p : ℕ) × Has p (slice_index_or ps t [])

-- a walk up ends at the first type
all_below : (ps rows : List (List ℕ)) (n : ℕ) → IsRooted ps n → length rows ≡ n → HoldOrder ps rows → (k t : ℕ) → t < n →
    length (filter (λ b. has_bit (row_at rows b) t) (range_with_len 0 n)) ≤ k → IsAtOrBelow ps t 0
all_below ps rows n r size order zero t h l =
    absurd (none (strictly_fewer (λ b. false) (λ b. has_bit (row_at rows b) t) (range_with_len 0 n) t (λ x e. absurd (differ _ e refl)) (member_range 0 n t (omega arith) (omega arith)) refl
    ((order t t (omega (arith, size, h)) (omega (arith, size, h))).1 (itself t))))
  where
    none : length (filter (λ b. false) (range_with_len 0 n)) < length (filter (λ b. has_bit (row_at rows b) t) (range_with_len 0 n)) → ⊥
    none m = omega arith
all_below ps rows n r size order (suc k) t h l = go (λ p in_p m. all_below ps rows n r size order k p in_p m) (cases_lt 0 t)
  where
    go : ((p : ℕ) → p < n → length (filter (λ b. has_bit (row_at rows b) p) (range_with_len 0 n)) ≤ k → IsAtOrBelow ps p 0) → (0 < t) ⊎ (t ≤ 0) → IsAtOrBelow ps t 0
    go ih (inr z) = let same : t ≡ 0 = omega arith in subst (λ x. IsAtOrBelow ps x 0) (sym same) (itself 0)
    go ih (inl s) =
        let up = r.parent t s h in
        let in_p = r.in_range t up.0 up.1 in
        let less = strictly_fewer (λ b. has_bit (row_at rows b) up.0) (λ b. has_bit (row_at rows b) t) (range_with_len 0 n) t (wider up.0 up.1 in_p) (member_range 0 n t (omega arith) (omega arith))
        (not_up up.0 up.1 in_p) ((order t t (omega (arith, size, h)) (omega (arith, size, h))).1 (itself t)) in
        above_parent t up.0 0 up.1 (ih up.0 in_p (omega (arith, less, l)))
      where
        in_rows : (p x : ℕ) → p < n → (has_bit (row_at rows x) p ≡ true) → (x < length rows) ⊎ (length rows ≤ x) → x < length rows
        in_rows p x in_p e (inl m) = m
        in_rows p x in_p e (inr m) = absurd (differ _ e (ap (λ w. has_bit w p) (get_or_past rows x [] m) ∙ no_word p))
          where
            no_word : (y : ℕ) → has_bit [] y ≡ false
            no_word y = has_bit-past [] y (omega arith)

        wider : (p : ℕ) → Has p (slice_index_or ps t []) → p < n → (x : ℕ) → has_bit (row_at rows x) p ≡ true → has_bit (row_at rows x) t ≡ true
        wider p up in_p x e =
            let in_x = in_rows p x in_p e (cases_lt x (length rows)) in
            (order t x (omega (arith, size, h)) in_x).1 (above_parent t p x up ((order p x (omega (arith, size, in_p)) in_x).0 e))

        not_up : (p : ℕ) → Has p (slice_index_or ps t []) → p < n → has_bit (row_at rows t) p ≡ false
        not_up p up in_p = pick (bool_cases (has_bit (row_at rows t) p))
          where
            pick : (has_bit (row_at rows t) p ≡ true) ⊎ (has_bit (row_at rows t) p ≡ false) → has_bit (row_at rows t) p ≡ false
            pick (inl e) = absurd (r.no_cycle t h (p, up, (order p t (omega (arith, size, in_p)) (omega (arith, size, h))).0 e))
            pick (inr e) = e

length_filter_range : (p : ℕ → Bool) (a n : ℕ) → length (filter p (range_with_len a n)) ≤ n
length_filter_range p a zero = omega arith
length_filter_range p a (suc n) = go (p a) (length_filter_range p (a + 1) n)
  where
    go : (b : Bool) → length (filter p (range_with_len (a + 1) n)) ≤ n → length (cond b (a ∷ filter p (range_with_len (a + 1) n)) (filter p (range_with_len (a + 1) n))) ≤ suc n
    go true h = omega arith
    go false h = omega arith

pub get_or_map_twice : (n : ℕ) (rows : List (Vec ℕ Global)) (a : ℕ) → a < length rows → slice_index_or (map (λ row. bits_below n row.items) rows) a [] ≡ bits_below n (row_at (lists rows) a)
get_or_map_twice n [] a h = absurd (omega arith)
get_or_map_twice n (r ∷ rows) zero h = refl
get_or_map_twice n (r ∷ rows) (suc a) h = get_or_map_twice n rows a (omega arith)

-- the laws of a rooted order
pub rooted_laws : (names : List (String Global)) (rows : List (Vec ℕ Global)) (s : ℕ) (ps : List (List ℕ)) → IsRooted ps (length rows) → HoldOrder ps (lists rows) → AreRows rows →
    length names ≡ length rows → 0 < length rows → length rows ≤ 16386 → s < length rows → IsHierarchyInside names rows s
rooted_laws names rows s ps r order are named some few s_in = record {
  rows_are = are;
  laws = record {
    order = record {
      at_least_top = some;
      written_first = omega (arith, size);
      named = omega (arith, size, named, length-map names string_bytes);
      string_in = s_in;
      rising = λ a h. subst (IsRising n) (sym (set_is a (omega (arith, size, h)))) (rising_filter (λ x. has_bit (row_at (lists rows) a) x) n);
      nonempty = λ a h. not_empty _ a (member_of a a (omega (arith, size, h)) (omega (arith, size, h)) ∙ (told a a (omega (arith, size, h)) (omega (arith, size, h))).1 (itself a));
      distinct = λ i j h k e. distinct i j h (omega (arith, size, k)) e;
      own = λ a h. member_of a a h h ∙ (told a a h h).1 (itself a);
      down = λ a b x h k m l. down a b x h (omega (arith, size, k)) m l;
      top_has_all = λ x h. member_of x 0 h some ∙ (told x 0 h some).1 (all_below ps (lists rows) n r rows_size order n x h (shorter x));
    };
    all_written = sym size;
    all_named = length-map names string_bytes ∙ named ∙ sym size;
    few = few;
  };
}
  where
    n : ℕ
    n = length rows

    t : TypeTable
    t = hierarchy_table names rows s

    size : length (map (λ row. bits_below (length rows) row.items) rows) ≡ length rows
    size = length-map rows (λ row. bits_below (length rows) row.items)

    rows_size : length (lists rows) ≡ length rows
    rows_size = length-map rows (λ v. v.items)

    set_is : (a : ℕ) → a < length rows → slice_index_or (map (λ row. bits_below (length rows) row.items) rows) a [] ≡ bits_below (length rows) (row_at (lists rows) a)
    set_is a h = get_or_map_twice (length rows) rows a h

    told : (a b : ℕ) → a < length rows → b < length rows → (has_bit (row_at (lists rows) b) a ≡ true) ↔ IsAtOrBelow ps a b
    told a b h k = order a b (omega (arith, rows_size, h)) (omega (arith, rows_size, k))

    member_of : (a b : ℕ) → a < length rows → b < length rows → has_member (slice_index_or (map (λ row. bits_below (length rows) row.items) rows) b []) a ≡ has_bit (row_at (lists rows) b) a
    member_of a b h k = ap (λ l. has_member l a) (set_is b k) ∙ member_bits (length rows) (row_at (lists rows) b) a h

    distinct : (i j : ℕ) → i < j → j < length rows → slice_index_or (map (λ row. bits_below (length rows) row.items) rows) i [] ≢ slice_index_or (map (λ row. bits_below (length rows) row.items) rows) j []
    distinct i j h k e =
        let i_in : i < length rows = omega arith in
        let up = (told j i k i_in).0 (sym (member_of j i k i_in) ∙ ap (λ l. has_member l j) e ∙ member_of j j k k ∙ (told j j k k).1 (itself j)) in
        let down' = (told i j i_in k).0 (sym (member_of i j i_in k) ∙ ap (λ l. has_member l i) (sym e) ∙ member_of i i i_in i_in ∙ (told i i i_in i_in).1 (itself i)) in
        let same = below_anti ps i j (r.no_cycle i i_in) down' up in
        absurd (omega arith)

    down : (a b x : ℕ) → a < length rows → b < length rows → has_member (slice_index_or (map (λ row. bits_below (length rows) row.items) rows) b []) a ≡ true →
        has_member (slice_index_or (map (λ row. bits_below (length rows) row.items) rows) a []) x ≡ true → has_member (slice_index_or (map (λ row. bits_below (length rows) row.items) rows) b []) x ≡ true
    down a b x h k m l =
        let x_in : x < length rows = rising_below (length rows) _ x (subst (IsRising (length rows)) (sym (set_is a h)) (rising_filter (λ y. has_bit (row_at (lists rows) a) y) (length rows))) l in
        member_of x b x_in k ∙ (told x b x_in k).1 (below_trans ps x a b ((told x a x_in h).0 (sym (member_of x a x_in h) ∙ l)) ((told a b h k).0 (sym (member_of a b h k) ∙ m)))

    shorter : (x : ℕ) → length (filter (λ b. has_bit (row_at (lists rows) b) x) (range_with_len 0 (length rows))) ≤ length rows
    shorter x = length_filter_range (λ b. has_bit (row_at (lists rows) b) x) 0 (length rows)
