-- Sets as rising lists.
use Rattle.std.proofs.Common.{ℕ, zero, suc, ◌≡◌, ◌≢◌, ◌≤◌, ◌<◌, ◌+◌, ◌==◌, ◌&&◌, ◌||◌, ◌⊎◌, inl, inr, Bool, true, false, cond, Some, None, List, [], ◌∷◌, length, filter, map, slice_index_or, nat_lt, not, Vec, refl, sym, ◌∙◌, ap, subst, arith}
use Rattle.std.specs.Global.{Global}
use Rattle.std.specs.List.{range_with_len, position_or_len}
use Rattle.std.specs.Prelude.{position}
use Rattle.std.proofs.lemmas.Bool.{cases_lt}
use Rattle.std.proofs.lemmas.Bool.Decides.{Decides-eqb, Decides-ltb}
use Rattle.std.proofs.lemmas.List.{get_or-map}
use Rattle.type_hierarchy.specs.Bits.{has_bit, bits_below}
use Rattle.type_hierarchy.specs.Table.{has_member, is_subset, intersection}
use Rattle.type_hierarchy.specs.Laws.{IsRising}

pub differ : (b : Bool) → b ≡ true → b ≡ false → ⊥
differ b e f = cc

pub bool_cases : (b : Bool) → (b ≡ true) ⊎ (b ≡ false)
bool_cases true = inl refl
bool_cases false = inr refl

pub same_bools : (a b : Bool) → (a ≡ true → b ≡ true) → (b ≡ true → a ≡ true) → a ≡ b
same_bools true true f g = refl
same_bools false false f g = refl
same_bools true false f g = sym (f refl)
same_bools false true f g = g refl

pub lt_true : (a b : ℕ) → a < b → nat_lt a b ≡ true
lt_true a b h = (Decides-ltb a b).1 h

pub lt_of : (a b : ℕ) → nat_lt a b ≡ true → a < b
lt_of a b e = (Decides-ltb a b).0 e

pub lt_false : (a b : ℕ) → b ≤ a → nat_lt a b ≡ false
lt_false a b h = go (bool_cases (nat_lt a b))
  where
    go : (nat_lt a b ≡ true) ⊎ (nat_lt a b ≡ false) → nat_lt a b ≡ false
    go (inl e) = let less = lt_of a b e in absurd (omega arith)
    go (inr e) = e

pub eq_true : (a : ℕ) → (a == a) ≡ true
eq_true a = (Decides-eqb a a).1 refl

pub eq_of : (a b : ℕ) → (a == b) ≡ true → a ≡ b
eq_of a b e = (Decides-eqb a b).0 e

pub eq_false : (a b : ℕ) → (a ≡ b → ⊥) → (a == b) ≡ false
eq_false a b h = go (bool_cases (a == b))
  where
    go : ((a == b) ≡ true) ⊎ ((a == b) ≡ false) → (a == b) ≡ false
    go (inl e) = absurd (h (eq_of a b e))
    go (inr e) = e

pub and_left : (a b : Bool) → (a && b) ≡ true → a ≡ true
and_left true b e = refl
and_left false b e = cc

pub and_right : (a b : Bool) → (a && b) ≡ true → b ≡ true
and_right true b e = e
and_right false b e = cc

pub and_both : (a b : Bool) → a ≡ true → b ≡ true → (a && b) ≡ true
and_both a b e f = rw (e, f) refl

pub or_cases : (a b : Bool) → (a || b) ≡ true → (a ≡ true) ⊎ (b ≡ true)
or_cases true b e = inl refl
or_cases false b e = inr e

pub or_left : (a b : Bool) → a ≡ true → (a || b) ≡ true
or_left a b e = rw e refl

pub or_right : (a b : Bool) → b ≡ true → (a || b) ≡ true
or_right true b e = refl
or_right false b e = e

-- members
pub member_filter : (p : ℕ → Bool) (xs : List ℕ) (x : ℕ) → has_member (filter p xs) x ≡ (p x && has_member xs x)
member_filter p [] x = sym (none (p x))
  where
    none : (b : Bool) → (b && false) ≡ false
    none true = refl
    none false = refl
member_filter p (y ∷ ys) x = go (bool_cases (p y)) (bool_cases (y == x)) (member_filter p ys x)
  where
    both : (b : Bool) → (b && true) ≡ b
    both true = refl
    both false = refl

    go : (p y ≡ true) ⊎ (p y ≡ false) → ((y == x) ≡ true) ⊎ ((y == x) ≡ false) → has_member (filter p ys) x ≡ (p x && has_member ys x) →
        has_member (cond (p y) (y ∷ filter p ys) (filter p ys)) x ≡ (p x && ((y == x) || has_member ys x))
    go (inl e) (inl f) ih = rw (e, f) (sym (both (p x) ∙ ap p (sym (eq_of y x f)) ∙ e))
    go (inl e) (inr f) ih = rw (e, f) ih
    go (inr e) (inl f) ih = rw e (ih ∙ ap (λ b. b && has_member ys x) none ∙ sym (ap (λ b. b && ((y == x) || has_member ys x)) none))
      where
        none : p x ≡ false
        none = ap p (sym (eq_of y x f)) ∙ e
    go (inr e) (inr f) ih = rw (e, f) ih

pub member_range : (a n x : ℕ) → a ≤ x → x < a + n → has_member (range_with_len a n) x ≡ true
member_range a zero x low high = absurd (omega arith)
member_range a (suc n) x low high = go (λ h k. member_range (a + 1) n x h k) (cases_lt a x)
  where
    go : (a + 1 ≤ x → x < a + 1 + n → has_member (range_with_len (a + 1) n) x ≡ true) → (a < x) ⊎ (x ≤ a) → ((a == x) || has_member (range_with_len (a + 1) n) x) ≡ true
    go ih (inl h) = or_right (a == x) _ (ih (omega arith) (omega arith))
    go ih (inr h) = or_left (a == x) _ (ap (λ y. a == y) (same h) ∙ eq_true a)
      where
        same : x ≤ a → x ≡ a
        same k = omega arith

pub member_past : (a n x : ℕ) → a + n ≤ x → has_member (range_with_len a n) x ≡ false
member_past a zero x h = refl
member_past a (suc n) x h = ap (λ b. b || has_member (range_with_len (a + 1) n) x) (eq_false a x (λ e. omega arith)) ∙ member_past (a + 1) n x (omega arith)

pub member_bits : (n : ℕ) (words : List ℕ) (x : ℕ) → x < n → has_member (bits_below n words) x ≡ has_bit words x
member_bits n words x h = member_filter (λ y. has_bit words y) (range_with_len 0 n) x ∙ ap (λ b. has_bit words x && b) (member_range 0 n x (omega arith) (omega arith)) ∙ and_true (has_bit words x)
  where
    and_true : (b : Bool) → (b && true) ≡ b
    and_true true = refl
    and_true false = refl

pub member_bits_past : (n : ℕ) (words : List ℕ) (x : ℕ) → n ≤ x → has_member (bits_below n words) x ≡ false
member_bits_past n words x h = member_filter (λ y. has_bit words y) (range_with_len 0 n) x ∙ ap (λ b. has_bit words x && b) (member_past 0 n x (omega arith)) ∙ none (has_bit words x)
  where
    none : (b : Bool) → (b && false) ≡ false
    none true = refl
    none false = refl

-- a filter of a range is known by its test
pub filter_same : (p q : ℕ → Bool) (a n : ℕ) → ((x : ℕ) → a ≤ x → x < a + n → p x ≡ q x) → filter p (range_with_len a n) ≡ filter q (range_with_len a n)
filter_same p q a zero h = refl
filter_same p q a (suc n) h =
    ap (λ b. cond b (a ∷ filter p (range_with_len (a + 1) n)) (filter p (range_with_len (a + 1) n))) (h a (omega arith) (omega arith))
    ∙ ap (λ l. cond (q a) (a ∷ l) l) (filter_same p q (a + 1) n (λ x low high. h x (omega arith) (omega arith)))

pub rising_filter : (p : ℕ → Bool) (n : ℕ) → IsRising n (filter p (range_with_len 0 n))
rising_filter p n = filter_same p (has_member (filter p (range_with_len 0 n))) 0 n
    (λ x low high. sym (member_filter p (range_with_len 0 n) x ∙ ap (λ b. p x && b) (member_range 0 n x (omega arith) (omega arith)) ∙ and_true (p x)))
  where
    and_true : (b : Bool) → (b && true) ≡ b
    and_true true = refl
    and_true false = refl

pub rising_below : (n : ℕ) (xs : List ℕ) (x : ℕ) → IsRising n xs → has_member xs x ≡ true → x < n
rising_below n xs x r m = go (cases_lt x n)
  where
    none : (b : Bool) → (b && false) ≡ false
    none true = refl
    none false = refl

    go : (x < n) ⊎ (n ≤ x) → x < n
    go (inl h) = h
    go (inr h) = absurd (differ _ m (ap (λ l. has_member l x) r ∙ member_filter (has_member xs) (range_with_len 0 n) x
        ∙ ap (λ b. has_member xs x && b) (member_past 0 n x (omega arith)) ∙ none (has_member xs x)))

pub rising_same : (n : ℕ) (xs ys : List ℕ) → IsRising n xs → IsRising n ys → ((x : ℕ) → x < n → has_member xs x ≡ has_member ys x) → xs ≡ ys
rising_same n xs ys r s same = r ∙ filter_same (has_member xs) (has_member ys) 0 n (λ x low high. same x (omega arith)) ∙ sym s

-- subsets
pub subset_intro : (xs ys : List ℕ) → ((x : ℕ) → has_member xs x ≡ true → has_member ys x ≡ true) → is_subset xs ys ≡ true
subset_intro [] ys h = refl
subset_intro (x ∷ xs) ys h = and_both (has_member ys x) _ (h x (or_left (x == x) _ (eq_true x))) (subset_intro xs ys (λ y m. h y (or_right (x == y) _ m)))

pub subset_elim : (xs ys : List ℕ) (x : ℕ) → is_subset xs ys ≡ true → has_member xs x ≡ true → has_member ys x ≡ true
subset_elim [] ys x s m = cc
subset_elim (y ∷ xs) ys x s m = go (λ k. subset_elim xs ys x (and_right (has_member ys y) _ s) k) (or_cases (y == x) (has_member xs x) m)
  where
    go : (has_member xs x ≡ true → has_member ys x ≡ true) → ((y == x) ≡ true) ⊎ (has_member xs x ≡ true) → has_member ys x ≡ true
    go ih (inl e) = subst (λ z. has_member ys z ≡ true) (eq_of y x e) (and_left (has_member ys y) _ s)
    go ih (inr k) = ih k

pub member_intersection : (xs ys : List ℕ) (x : ℕ) → has_member (intersection xs ys) x ≡ (has_member ys x && has_member xs x)
member_intersection xs ys x = member_filter (has_member ys) xs x

pub some_member : (xs : List ℕ) → xs ≢ [] → (x : ℕ) × (has_member xs x ≡ true)
some_member [] h = absurd (h refl)
some_member (x ∷ xs) h = (x, or_left (x == x) _ (eq_true x))

pub not_empty : (xs : List ℕ) (x : ℕ) → has_member xs x ≡ true → xs ≢ []
not_empty xs x m e = differ _ m (ap (λ l. has_member l x) e)

pub empty_of : (xs : List ℕ) → ((x : ℕ) → has_member xs x ≡ true → ⊥) → xs ≡ []
empty_of [] h = refl
empty_of (x ∷ xs) h = absurd (h x (or_left (x == x) _ (eq_true x)))

pub filter_twice : (p q : ℕ → Bool) (zs : List ℕ) → filter p (filter q zs) ≡ filter (λ x. p x && q x) zs
filter_twice p q [] = refl
filter_twice p q (z ∷ zs) = go (filter_twice p q zs) (bool_cases (q z)) (bool_cases (p z))
  where
    go : filter p (filter q zs) ≡ filter (λ x. p x && q x) zs → (q z ≡ true) ⊎ (q z ≡ false) → (p z ≡ true) ⊎ (p z ≡ false) →
        filter p (cond (q z) (z ∷ filter q zs) (filter q zs)) ≡ cond (p z && q z) (z ∷ filter (λ x. p x && q x) zs) (filter (λ x. p x && q x) zs)
    go ih (inl e) (inl f) = rw (e, f) (ap (λ l. z ∷ l) ih)
    go ih (inl e) (inr f) = rw (e, f) ih
    go ih (inr e) (inl f) = rw (e, f) ih
    go ih (inr e) (inr f) = rw (e, f) ih

pub rising_intersection : (n : ℕ) (xs ys : List ℕ) → IsRising n xs → IsRising n (intersection xs ys)
rising_intersection n xs ys r = subst (λ l. IsRising n l) (sym is) (rising_filter (λ x. has_member ys x && has_member xs x) n)
  where
    is : intersection xs ys ≡ filter (λ x. has_member ys x && has_member xs x) (range_with_len 0 n)
    is = ap (filter (has_member ys)) r ∙ filter_twice (has_member ys) (has_member xs) (range_with_len 0 n)

-- the first place that passes
pub passes_at : {X : Type 0} (p : X → Bool) (d : X) → (ys : List X) → position_or_len p ys < length ys → p (slice_index_or ys (position_or_len p ys) d) ≡ true
passes_at p d [] h = absurd (omega arith)
passes_at p d (y ∷ ys) h = step (λ k. passes_at p d ys k) (bool_cases (p y))
  where
    step : (position_or_len p ys < length ys → p (slice_index_or ys (position_or_len p ys) d) ≡ true) → (p y ≡ true) ⊎ (p y ≡ false) →
        p (slice_index_or (y ∷ ys) (position_or_len p (y ∷ ys)) d) ≡ true
    step ih (inl k) = ap (λ n. p (slice_index_or (y ∷ ys) n d)) (ap (λ b. cond (not b) (1 + position_or_len p ys) 0) k) ∙ k
    step ih (inr k) =
        let n_is : position_or_len p (y ∷ ys) ≡ 1 + position_or_len p ys = ap (λ b. cond (not b) (1 + position_or_len p ys) 0) k in
        let n_suc : position_or_len p (y ∷ ys) ≡ suc (position_or_len p ys) = omega (arith, n_is) in
        ap (λ n. p (slice_index_or (y ∷ ys) n d)) n_suc ∙ ih (omega (arith, n_suc, h))

pub position_within : {X : Type 0} (p : X → Bool) (d : X) → (ys : List X) (k : ℕ) → k < length ys → p (slice_index_or ys k d) ≡ true → position_or_len p ys ≤ k
position_within p d [] k l f = absurd (omega arith)
position_within p d (y ∷ ys) zero l f = let z : position_or_len p (y ∷ ys) ≡ 0 = ap (λ b. cond (not b) (1 + position_or_len p ys) 0) f in omega (arith, z)
position_within p d (y ∷ ys) (suc k) l f = step (bool_cases (p y)) (position_within p d ys k (omega arith) f)
  where
    step : (p y ≡ true) ⊎ (p y ≡ false) → position_or_len p ys ≤ k → position_or_len p (y ∷ ys) ≤ suc k
    step (inl g) ih = let z : position_or_len p (y ∷ ys) ≡ 0 = ap (λ b. cond (not b) (1 + position_or_len p ys) 0) g in omega (arith, z)
    step (inr g) ih = let z : position_or_len p (y ∷ ys) ≡ 1 + position_or_len p ys = ap (λ b. cond (not b) (1 + position_or_len p ys) 0) g in omega (arith, z, ih)

pub position_some : {X : Type 0} (p : X → Bool) (xs : List X) (i : ℕ) (d : X) → position p xs ≡ Some i → (i < length xs) × (p (slice_index_or xs i d) ≡ true)
position_some p xs i d e = go (bool_cases (nat_lt (position_or_len p xs) (length xs)))
  where
    some_is : (m n : ℕ) → Some m ≡ Some n → m ≡ n
    some_is m n k = cc

    none_is : (n : ℕ) → None ≡ Some n → ⊥
    none_is n k = cc

    go : (nat_lt (position_or_len p xs) (length xs) ≡ true) ⊎ (nat_lt (position_or_len p xs) (length xs) ≡ false) → (i < length xs) × (p (slice_index_or xs i d) ≡ true)
    go (inr f) = absurd (none_is i (sym (ap (λ b. cond b (Some (position_or_len p xs)) None) f) ∙ e))
    go (inl f) =
        let is : position_or_len p xs ≡ i = some_is _ _ (sym (ap (λ b. cond b (Some (position_or_len p xs)) None) f) ∙ e) in
        let within = lt_of _ _ f in
        (omega (arith, is, within), subst (λ n. p (slice_index_or xs n d) ≡ true) is (passes_at p d xs within))

pub position_at : {X : Type 0} (p : X → Bool) (xs : List X) (i : ℕ) (d : X) → i < length xs → p (slice_index_or xs i d) ≡ true → (m : ℕ) × (position p xs ≡ Some m)
position_at p xs i d h e =
    let within = position_within p d xs i h e in
    (position_or_len p xs, ap (λ b. cond b (Some (position_or_len p xs)) None) (lt_true _ _ (omega (arith, within, h))))

-- the set of a type, by its row
pub set_by_row : (n : ℕ) (rows : List (Vec ℕ Global)) (b : ℕ) (row : Vec ℕ Global) → b < length rows → row ≡ slice_index_or rows b row →
    slice_index_or (map (λ r. bits_below n r.items) rows) b [] ≡ bits_below n row.items
set_by_row n rows b row h e = get_or-map (λ r. bits_below n r.items) rows b row [] h ∙ ap (λ r. bits_below n r.items) (sym e)
