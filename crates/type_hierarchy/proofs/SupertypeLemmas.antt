-- The lowest of the types above one, taken in rising order.
use Rattle.std.proofs.Common.{ℕ, zero, suc, ◌≡◌, ◌≤◌, ◌<◌, ◌+◌, ◌-◌, ◌==◌, ◌&&◌, ◌||◌, not, ◌⊎◌, inl, inr, Bool, true, false, cond, List, [], ◌∷◌, ◌++◌, length, filter, take, slice_index_or, All, refl, sym, ◌∙◌, ap, subst, arith}
use Rattle.std.specs.List.{list_any, range_with_len}
use Rattle.std.proofs.lemmas.Bool.{cases_lt}
use Rattle.std.proofs.lemmas.List.{take_more}
use Rattle.std.proofs.lemmas.List.Elements.{filter_more}
use Rattle.type_hierarchy.specs.declared.types.Ty.{Ty}
use Rattle.type_hierarchy.specs.Table.{TypeTable, count_of, completed_count, is_below, has_member}
use Rattle.type_hierarchy.specs.Laws.{HasTypeLaws, IsRising}
use Rattle.type_hierarchy.specs.Bits.{has_bit}
use Rattle.type_hierarchy.specs.Inner.Nearest.{HasNearest}
use Rattle.type_hierarchy.specs.Supertypes.{is_strictly_below, has_between, supertypes_of, numbers_of}
use Rattle.type_hierarchy.proofs.BitLemmas.{filter_push, filter_skip}
use Rattle.type_hierarchy.proofs.SetLemmas.{differ, bool_cases, same_bools, eq_true, eq_of, eq_false, and_left, and_right, and_both, or_cases, or_left, or_right, member_filter, member_range, rising_filter, rising_below, rising_same, filter_same, filter_twice}

pub filter_kept : (p : ℕ → Bool) (xs : List ℕ) (i : ℕ) → i < length xs → p (slice_index_or xs i 0) ≡ true → filter p (take (i + 1) xs) ≡ filter p (take i xs) ++ slice_index_or xs i 0 ∷ []
filter_kept p xs i h e = filter_more p xs i 0 h ∙ ap (λ b. filter p (take i xs) ++ cond b (slice_index_or xs i 0 ∷ []) []) e

pub filter_left : (p : ℕ → Bool) (xs : List ℕ) (i : ℕ) → i < length xs → p (slice_index_or xs i 0) ≡ false → filter p (take (i + 1) xs) ≡ filter p (take i xs)
filter_left p xs i h e = filter_more p xs i 0 h ∙ ap (λ b. filter p (take i xs) ++ cond b (slice_index_or xs i 0 ∷ []) []) e ∙ append_none (filter p (take i xs))
  where
    append_none : (ys : List ℕ) → ys ++ [] ≡ ys
    append_none [] = refl
    append_none (y ∷ ys) = ap (λ l. y ∷ l) (append_none ys)

not_true : (b : Bool) → b ≡ false → not b ≡ true
not_true b e = ap not e

not_false : (b : Bool) → b ≡ true → not b ≡ false
not_false b e = ap not e

of_not : (b : Bool) → not b ≡ true → b ≡ false
of_not true e = cc
of_not false e = refl

-- a test that a number of a range passes
any_in : (p : ℕ → Bool) (a n v : ℕ) → a ≤ v → v < a + n → p v ≡ true → list_any p (range_with_len a n) ≡ true
any_in p a zero v low high e = absurd (omega arith)
any_in p a (suc n) v low high e = go (λ h k. any_in p (a + 1) n v h k e) (cases_lt a v)
  where
    go : (a + 1 ≤ v → v < a + 1 + n → list_any p (range_with_len (a + 1) n) ≡ true) → (a < v) ⊎ (v ≤ a) → (p a || list_any p (range_with_len (a + 1) n)) ≡ true
    go ih (inl h) = or_right (p a) _ (ih (omega arith) (omega arith))
    go ih (inr h) = let same : v ≡ a = omega arith in or_left (p a) _ (ap p (sym same) ∙ e)

any_of : (p : ℕ → Bool) (a n : ℕ) → list_any p (range_with_len a n) ≡ true → (v : ℕ) × (v < a + n) × (p v ≡ true)
any_of p a zero e = cc
any_of p a (suc n) e = go (any_of p (a + 1) n) (or_cases (p a) _ e)
  where
    go : (list_any p (range_with_len (a + 1) n) ≡ true → (v : ℕ) × (v < a + 1 + n) × (p v ≡ true)) → (p a ≡ true) ⊎ (list_any p (range_with_len (a + 1) n) ≡ true) →
        (v : ℕ) × (v < a + suc n) × (p v ≡ true)
    go ih (inl f) = (a, omega arith, f)
    go ih (inr f) = let r = ih f in (r.0, omega (arith, r.1), r.2)

-- a test that a member passes
any_member : (p : ℕ → Bool) (xs : List ℕ) → list_any p xs ≡ true → (x : ℕ) × (has_member xs x ≡ true) × (p x ≡ true)
any_member p [] e = cc
any_member p (y ∷ ys) e = go (any_member p ys) (or_cases (p y) _ e)
  where
    go : (list_any p ys ≡ true → (x : ℕ) × (has_member ys x ≡ true) × (p x ≡ true)) → (p y ≡ true) ⊎ (list_any p ys ≡ true) → (x : ℕ) × (has_member (y ∷ ys) x ≡ true) × (p x ≡ true)
    go ih (inl f) = (y, or_left (y == y) _ (eq_true y), f)
    go ih (inr f) = let r = ih f in (r.0, or_right (y == r.0) _ r.1, r.2)

member_any : (p : ℕ → Bool) (xs : List ℕ) (x : ℕ) → has_member xs x ≡ true → p x ≡ true → list_any p xs ≡ true
member_any p [] x m e = cc
member_any p (y ∷ ys) x m e = go (λ k. member_any p ys x k e) (or_cases (y == x) _ m)
  where
    go : (has_member ys x ≡ true → list_any p ys ≡ true) → ((y == x) ≡ true) ⊎ (has_member ys x ≡ true) → (p y || list_any p ys) ≡ true
    go ih (inl f) = or_left (p y) _ (ap p (eq_of y x f) ∙ e)
    go ih (inr f) = or_right (p y) _ (ih f)

member_append : (xs ys : List ℕ) (x : ℕ) → has_member (xs ++ ys) x ≡ (has_member xs x || has_member ys x)
member_append [] ys x = refl
member_append (z ∷ xs) ys x = ap (λ b. (z == x) || b) (member_append xs ys x) ∙ assoc (z == x) (has_member xs x) (has_member ys x)
  where
    assoc : (a b c : Bool) → (a || (b || c)) ≡ ((a || b) || c)
    assoc true b c = refl
    assoc false b c = refl

-- of the types of a row above t with numbers below n, those that no other one is below
pub record IsLowest (types : TypeTable) (t : ℕ) (row : List ℕ) (n : ℕ) (kept : List ℕ) : Type 0 where
  pub rising : IsRising n kept
  pub above : (x : ℕ) → has_member kept x ≡ true → is_strictly_below types t x ≡ true
  pub covered : (u : ℕ) → u < n → has_bit row u ≡ true → is_strictly_below types t u ≡ true → (k : ℕ) × (has_member kept k ≡ true) × (is_below types k u ≡ true)
  pub apart : (x y : ℕ) → has_member kept x ≡ true → has_member kept y ≡ true → is_below types x y ≡ true → x ≡ y

pub lowest_none : (types : TypeTable) (t : ℕ) (row : List ℕ) → IsLowest types t row 0 []
lowest_none types t row = record {
  rising = refl;
  above = λ x m. cc;
  covered = λ u h. absurd (omega arith);
  apart = λ x y m. cc;
}

rising_more : (n : ℕ) (xs : List ℕ) → IsRising n xs → IsRising (n + 1) xs
rising_more n xs r = r ∙ filter_skip (has_member xs) n (out (bool_cases (has_member xs n)))
  where
    out : (has_member xs n ≡ true) ⊎ (has_member xs n ≡ false) → has_member xs n ≡ false
    out (inl m) = let less = rising_below n xs n r m in absurd (omega arith)
    out (inr m) = m

next : (n u : ℕ) → u < n + 1 → (u < n) ⊎ (u ≡ n)
next n u h = go (cases_lt u n)
  where
    go : (u < n) ⊎ (n ≤ u) → (u < n) ⊎ (u ≡ n)
    go (inl k) = inl k
    go (inr k) = inr (omega arith)

-- the next type isn't above t
pub lowest_skip : (types : TypeTable) (t : ℕ) (row : List ℕ) (n : ℕ) (kept : List ℕ) → (has_bit row n ≡ true → is_strictly_below types t n ≡ true → ⊥) → IsLowest types t row n kept → IsLowest types t row (n + 1) kept
lowest_skip types t row n kept e l = record {
  rising = rising_more n kept l.rising;
  above = l.above;
  covered = λ u h b s. go u b s (next n u h);
  apart = l.apart;
}
  where
    go : (u : ℕ) → has_bit row u ≡ true → is_strictly_below types t u ≡ true → (u < n) ⊎ (u ≡ n) → (k : ℕ) × (has_member kept k ≡ true) × (is_below types k u ≡ true)
    go u b s (inl h) = l.covered u h b s
    go u b s (inr h) = absurd (e (ap (has_bit row) (sym h) ∙ b) (ap (is_strictly_below types t) (sym h) ∙ s))

pub not_strictly : (types : TypeTable) (a b : ℕ) → (a ≡ b) ⊎ (is_below types a b ≡ false) → is_strictly_below types a b ≡ false
not_strictly types a b (inl e) = ap (λ p. p && is_below types a b) (not_false (a == b) (ap (λ z. a == z) (sym e) ∙ eq_true a))
not_strictly types a b (inr e) = ap (λ p. not (a == b) && p) e ∙ and_false (not (a == b))
  where
    and_false : (p : Bool) → (p && false) ≡ false
    and_false true = refl
    and_false false = refl

-- types that aren't in the row are passed over
pub lowest_passed : (types : TypeTable) (t : ℕ) (row : List ℕ) (from to : ℕ) (kept : List ℕ) → from ≤ to → ((u : ℕ) → from ≤ u → u < to → has_bit row u ≡ false) →
    IsLowest types t row from kept → IsLowest types t row to kept
lowest_passed types t row from to kept h none l = subst (λ n. IsLowest types t row n kept) (omega arith) (go from (to - from) (λ u low high. none u low (omega arith)) l)
  where
    go : (a n : ℕ) → ((u : ℕ) → a ≤ u → u < a + n → has_bit row u ≡ false) → IsLowest types t row a kept → IsLowest types t row (a + n) kept
    go a zero f k = subst (λ m. IsLowest types t row m kept) (omega arith) k
    go a (suc n) f k = subst (λ m. IsLowest types t row m kept) (shift a n) (go (a + 1) n (λ u low high. f u (omega arith) (omega arith)) (lowest_skip types t row a kept (λ m _. differ _ m (f a (omega arith) (omega arith))) k))
      where
        shift : (a n : ℕ) → a + 1 + n ≡ a + suc n
        shift a n = omega arith

-- one of the types is below the next one
pub lowest_stays : (types : TypeTable) (t : ℕ) (row : List ℕ) (n : ℕ) (kept : List ℕ) → list_any (λ u. is_below types u n) kept ≡ true → IsLowest types t row n kept → IsLowest types t row (n + 1) kept
lowest_stays types t row n kept e l = record {
  rising = rising_more n kept l.rising;
  above = l.above;
  covered = λ u h b s. go u b s (next n u h);
  apart = l.apart;
}
  where
    go : (u : ℕ) → has_bit row u ≡ true → is_strictly_below types t u ≡ true → (u < n) ⊎ (u ≡ n) → (k : ℕ) × (has_member kept k ≡ true) × (is_below types k u ≡ true)
    go u b s (inl h) = l.covered u h b s
    go u b s (inr h) = subst (λ v. (k : ℕ) × (has_member kept k ≡ true) × (is_below types k v ≡ true)) (sym h) (any_member (λ u. is_below types u n) kept e)

-- the next type takes the place of those that it is below
pub lowest_added : (types : TypeTable) (t : ℕ) (row : List ℕ) (n : ℕ) (kept : List ℕ) → HasTypeLaws types →
    is_strictly_below types t n ≡ true → list_any (λ u. is_below types u n) kept ≡ false → IsLowest types t row n kept →
    IsLowest types t row (n + 1) (filter (λ u. not (is_below types n u)) kept ++ n ∷ [])
lowest_added types t row n kept laws s none l = record {
  rising = subst (IsRising (n + 1)) (sym is) (rising_filter p (n + 1));
  above = λ x m. above x (old x m);
  covered = λ u h b k. covered u b k (next n u h);
  apart = λ x y m k e. apart x y e (old x m) (old y k);
}
  where
    new : List ℕ
    new = filter (λ u. not (is_below types n u)) kept ++ n ∷ []

    p : ℕ → Bool
    p x = (x == n) || (not (is_below types n x) && has_member kept x)

    or_true : (b : Bool) → b ≡ false → (c : Bool) → (b || c) ≡ c
    or_true b e c = ap (λ x. x || c) e

    is : filter (λ u. not (is_below types n u)) kept ++ n ∷ [] ≡ filter p (range_with_len 0 (n + 1))
    is = ap (λ l. filter (λ u. not (is_below types n u)) l ++ n ∷ []) l.rising
        ∙ ap (λ l. l ++ n ∷ []) (filter_twice (λ u. not (is_below types n u)) (has_member kept) (range_with_len 0 n)
        ∙ filter_same (λ x. not (is_below types n x) && has_member kept x) p 0 n (λ x low high. sym (or_true (x == n) (eq_false x n (λ e. omega arith)) _)))
        ∙ filter_push p n (or_left (n == n) _ (eq_true n))

    -- what stands in the new list
    old : (x : ℕ) → has_member (filter (λ u. not (is_below types n u)) kept ++ n ∷ []) x ≡ true → ((has_member kept x ≡ true) × (is_below types n x ≡ false)) ⊎ (x ≡ n)
    old x m = go (or_cases _ _ (sym (member_append (filter (λ u. not (is_below types n u)) kept) (n ∷ []) x) ∙ m))
      where
        go : (has_member (filter (λ u. not (is_below types n u)) kept) x ≡ true) ⊎ (has_member (n ∷ []) x ≡ true) → ((has_member kept x ≡ true) × (is_below types n x ≡ false)) ⊎ (x ≡ n)
        go (inl k) =
            let both = sym (member_filter (λ u. not (is_below types n u)) kept x) ∙ k in
            inl (and_right _ _ both, of_not _ (and_left _ _ both))
        go (inr k) = one (or_cases (n == x) false k)
          where
            one : ((n == x) ≡ true) ⊎ (false ≡ true) → ((has_member kept x ≡ true) × (is_below types n x ≡ false)) ⊎ (x ≡ n)
            one (inl e) = inr (sym (eq_of n x e))
            one (inr e) = cc

    kept_new : (x : ℕ) → has_member kept x ≡ true → is_below types n x ≡ false → has_member (filter (λ u. not (is_below types n u)) kept ++ n ∷ []) x ≡ true
    kept_new x m e =
        member_append (filter (λ u. not (is_below types n u)) kept) (n ∷ []) x
        ∙ or_left _ _ (member_filter (λ u. not (is_below types n u)) kept x ∙ and_both _ _ (not_true _ e) m)

    n_new : has_member (filter (λ u. not (is_below types n u)) kept ++ n ∷ []) n ≡ true
    n_new = member_append (filter (λ u. not (is_below types n u)) kept) (n ∷ []) n ∙ or_right _ _ (or_left (n == n) _ (eq_true n))

    above : (x : ℕ) → ((has_member kept x ≡ true) × (is_below types n x ≡ false)) ⊎ (x ≡ n) → is_strictly_below types t x ≡ true
    above x (inl k) = l.above x k.0
    above x (inr k) = ap (is_strictly_below types t) k ∙ s

    covered : (u : ℕ) → has_bit row u ≡ true → is_strictly_below types t u ≡ true → (u < n) ⊎ (u ≡ n) →
        (k : ℕ) × (has_member (filter (λ u. not (is_below types n u)) kept ++ n ∷ []) k ≡ true) × (is_below types k u ≡ true)
    covered u b e (inr h) = (n, n_new, ap (is_below types n) h ∙ laws.reflexive n)
    covered u b e (inl h) = go (l.covered u h b e)
      where
        go : (k : ℕ) × (has_member kept k ≡ true) × (is_below types k u ≡ true) →
            (k : ℕ) × (has_member (filter (λ u. not (is_below types n u)) kept ++ n ∷ []) k ≡ true) × (is_below types k u ≡ true)
        go k = pick (bool_cases (is_below types n k.0))
          where
            pick : (is_below types n k.0 ≡ true) ⊎ (is_below types n k.0 ≡ false) →
                (k : ℕ) × (has_member (filter (λ u. not (is_below types n u)) kept ++ n ∷ []) k ≡ true) × (is_below types k u ≡ true)
            pick (inl f) = (n, n_new, laws.transitive n k.0 u f k.2)
            pick (inr f) = (k.0, kept_new k.0 k.1 f, k.2)

    apart : (x y : ℕ) → is_below types x y ≡ true → ((has_member kept x ≡ true) × (is_below types n x ≡ false)) ⊎ (x ≡ n) →
        ((has_member kept y ≡ true) × (is_below types n y ≡ false)) ⊎ (y ≡ n) → x ≡ y
    apart x y e (inl a) (inl b) = l.apart x y a.0 b.0 e
    apart x y e (inl a) (inr b) = absurd (differ _ (member_any (λ u. is_below types u n) kept x a.0 (ap (is_below types x) (sym b) ∙ e)) none)
    apart x y e (inr a) (inl b) = absurd (differ _ (ap (λ z. is_below types z y) (sym a) ∙ e) b.1)
    apart x y e (inr a) (inr b) = a ∙ sym b

pub lowest_next : (types : TypeTable) (t : ℕ) (row : List ℕ) (n : ℕ) (kept new : List ℕ) → HasTypeLaws types → is_strictly_below types t n ≡ true →
    (list_any (λ u. is_below types u n) kept ≡ true → new ≡ kept) →
    (list_any (λ u. is_below types u n) kept ≡ false → new ≡ filter (λ u. not (is_below types n u)) kept ++ n ∷ []) →
    IsLowest types t row n kept → IsLowest types t row (n + 1) new
lowest_next types t row n kept new laws s stays changes l = go (bool_cases (list_any (λ u. is_below types u n) kept))
  where
    go : (list_any (λ u. is_below types u n) kept ≡ true) ⊎ (list_any (λ u. is_below types u n) kept ≡ false) → IsLowest types t row (n + 1) new
    go (inl e) = subst (IsLowest types t row (n + 1)) (sym (stays e)) (lowest_stays types t row n kept e l)
    go (inr e) = subst (IsLowest types t row (n + 1)) (sym (changes e))
        (lowest_added types t row n kept laws s e l)

pub strictly : (types : TypeTable) (a b : ℕ) → (a ≡ b → ⊥) → is_below types a b ≡ true → is_strictly_below types a b ≡ true
strictly types a b apart e = and_both _ _ (not_true _ (eq_false a b apart)) e

member_at : (xs : List ℕ) (k d : ℕ) → k < length xs → has_member xs (slice_index_or xs k d) ≡ true
member_at [] k d h = absurd (omega arith)
member_at (x ∷ xs) zero d h = or_left (x == x) _ (eq_true x)
member_at (x ∷ xs) (suc k) d h = or_right (x == slice_index_or xs k d) _ (member_at xs k d (omega arith))

pub kept_each_in : (types : TypeTable) (t : ℕ) (row : List ℕ) (n : ℕ) (kept : List ℕ) → n ≤ count_of types → IsLowest types t row n kept → All (λ u. u < count_of types) kept
kept_each_in types t row n kept few l = λ k d h. let x_in : slice_index_or kept k d < n = rising_below n kept _ l.rising (member_at kept k d h) in omega arith

-- the lowest of all types above t are the immediate supertypes
pub lowest_are : (types : TypeTable) (t : ℕ) (row : List ℕ) (n : ℕ) (kept : List ℕ) → HasTypeLaws types → n ≡ completed_count types → HasNearest types t row → IsLowest types t row n kept → kept ≡ supertypes_of types t
lowest_are types t row n kept laws all near l =
    rising_same n kept _ l.rising (subst (λ m. IsRising m (supertypes_of types t)) (sym all) (rising_filter (λ b. is_strictly_below types t b && not (has_between types t b)) (completed_count types)))
    (λ x h. same_bools _ _ (λ m. there x h m) (λ m. back x h m))
  where
    -- what the row's nearest ones cover, the kept ones do
    covers : (u : ℕ) → u < n → is_strictly_below types t u ≡ true → (k : ℕ) × (has_member kept k ≡ true) × (is_below types k u ≡ true)
    covers u h s =
        let a = near u (omega (arith, h, all)) s in
        let k = l.covered a.nearest (omega (arith, a.within, all)) a.is_in a.above in
        (k.0, k.1, laws.transitive k.0 a.nearest u k.2 a.below)

    below : (a b : ℕ) → is_strictly_below types a b ≡ true → is_below types a b ≡ true
    below a b e = and_right (not (a == b)) _ e

    differs : (a b : ℕ) → is_strictly_below types a b ≡ true → a ≡ b → ⊥
    differs a b e same = differ _ (and_left (not (a == b)) _ e) (not_false _ (ap (λ z. a == z) (sym same) ∙ eq_true a))

    no_between : (x : ℕ) → x < n → has_member kept x ≡ true → has_between types t x ≡ false
    no_between x h m = go (bool_cases (has_between types t x))
      where
        go : (has_between types t x ≡ true) ⊎ (has_between types t x ≡ false) → has_between types t x ≡ false
        go (inr e) = e
        go (inl e) =
            let v = any_of (λ u. is_strictly_below types t u && is_strictly_below types u x) 0 (completed_count types) e in
            let v_in : v.0 < n = omega (arith, v.1, all) in
            let up = and_left _ _ v.2 in
            let to_x = and_right (is_strictly_below types t v.0) _ v.2 in
            let k = covers v.0 v_in up in
            let k_in : k.0 < n = rising_below n kept k.0 l.rising k.1 in
            let k_is = l.apart k.0 x k.1 m (laws.transitive k.0 v.0 x k.2 (below v.0 x to_x)) in
            absurd (differs v.0 x to_x (laws.antisymmetric v.0 x (below v.0 x to_x) (ap (λ z. is_below types z v.0) (sym k_is) ∙ k.2)))

    there : (x : ℕ) → x < n → has_member kept x ≡ true → has_member (supertypes_of types t) x ≡ true
    there x h m =
        member_filter (λ b. is_strictly_below types t b && not (has_between types t b)) (range_with_len 0 (completed_count types)) x
        ∙ and_both _ _ (and_both _ _ (l.above x m) (not_true _ (no_between x h m))) (member_range 0 (completed_count types) x (omega arith) (omega (arith, all)))

    back : (x : ℕ) → x < n → has_member (supertypes_of types t) x ≡ true → has_member kept x ≡ true
    back x h m =
        let both = and_left _ _ (sym (member_filter (λ b. is_strictly_below types t b && not (has_between types t b)) (range_with_len 0 (completed_count types)) x) ∙ m) in
        let up = and_left (is_strictly_below types t x) _ both in
        let none = of_not _ (and_right (is_strictly_below types t x) _ both) in
        let k = covers x h up in
        let k_in : k.0 < n = rising_below n kept k.0 l.rising k.1 in
        go k.0 k_in k.1 k.2 none (bool_cases (k.0 == x))
      where
        go : (k : ℕ) → k < n → has_member kept k ≡ true → is_below types k x ≡ true → has_between types t x ≡ false → ((k == x) ≡ true) ⊎ ((k == x) ≡ false) → has_member kept x ≡ true
        go k k_in m e none (inl f) = subst (λ z. has_member kept z ≡ true) (eq_of k x f) m
        go k k_in m e none (inr f) = absurd (differ _
            (any_in (λ u. is_strictly_below types t u && is_strictly_below types u x) 0 (completed_count types) k (omega arith) (omega (arith, all))
            (and_both _ _ (l.above k m) (and_both _ _ (not_true _ f) e))) none)

-- one more type
pub numbers_push : (xs : List ℕ) (ts us : List Ty) (i : ℕ) (t : Ty) → i < length xs → t.0 ≡ slice_index_or xs i 0 → us ≡ ts ++ t ∷ [] → numbers_of ts ≡ take i xs → numbers_of us ≡ take (i + 1) xs
numbers_push xs ts us i t h e f g = ap numbers_of f ∙ map_append ts ∙ ap (λ l. l ++ t.0 ∷ []) g ∙ ap (λ n. take i xs ++ n ∷ []) e ∙ sym (take_more xs i 0 h)
  where
    map_append : (ts : List Ty) → numbers_of (ts ++ t ∷ []) ≡ numbers_of ts ++ t.0 ∷ []
    map_append [] = refl
    map_append (u ∷ ts) = ap (λ l. u.0 ∷ l) (map_append ts)
