-- Numbers that rise, and are those of a range in some order, are the range.
use Rattle.std.proofs.Common.{ℕ, zero, suc, ◌≡◌, ◌<◌, ◌≤◌, ◌+◌, ◌⊎◌, inl, inr, nat_lt, cond, List, [], ◌∷◌, length, map, slice_index_or, Some, refl, sym, ◌∙◌, ap, arith}
use Rattle.std.specs.Prelude.{slice_get}
use Rattle.std.specs.List.{sum_by, range_with_len}
use Rattle.std.specs.List.Sorted.{IsPermutation, IsNonDecreasingBy}
use Rattle.std.proofs.lemmas.Bool.{cases_lt, lt-ltb, le-ltb}
use Rattle.std.proofs.lemmas.List.{length-map, get_or-map}
use Rattle.std.proofs.lemmas.List.FromFn.{get_or-range_with_len, length-range_with_len}
use Rattle.std.proofs.lemmas.List.Sums.{sum_by-cons}
use Rattle.std.proofs.lemmas.List.Sorted.{sum_by-IsPermutation, All-permutation, length_permutation}
use Rattle.std.proofs.lemmas.Option.{slice_get-get_or}
use Rattle.lexicon.specs.Words.{Each}
use Rattle.grammar_load.proofs.ListLemmas.{all_each}

-- 1 for each number below a bound
below : ℕ → ℕ → ℕ
below a x = cond (nat_lt x a) 1 0

one_below : (a x : ℕ) → x < a → below a x ≡ 1
unfolding below
one_below a x l = ap (λ b. cond b 1 0) (lt-ltb x a l)

none_below : (a x : ℕ) → a ≤ x → below a x ≡ 0
unfolding below
none_below a x l = ap (λ b. cond b 1 0) (le-ltb x a l)

range_high : (a b k : ℕ) → a ≤ b → sum_by (below a) (range_with_len b k) ≡ 0
range_high a b zero l = refl
range_high a b (suc k) l = omega (arith, sum_by-cons (below a) b (range_with_len (b + 1) k), none_below a b l, range_high a (b + 1) k (omega (arith, l)))

module _ {A : Type 0} (n : A → ℕ) where
  high : (a : ℕ) (xs : List A) → Each (λ x. a ≤ n x) xs → sum_by (λ x. below a (n x)) xs ≡ 0
  high a [] e = refl
  high a (x ∷ xs) e = omega (arith, sum_by-cons (λ y. below a (n y)) x xs, none_below a (n x) e.0, high a xs e.1)

  sum_mapped : (f : ℕ → ℕ) (xs : List A) → sum_by (λ x. f (n x)) xs ≡ sum_by f (map n xs)
  sum_mapped f [] = refl
  sum_mapped f (x ∷ xs) = omega (arith, sum_by-cons (λ y. f (n y)) x xs, sum_by-cons f (n x) (map n xs), sum_mapped f xs)

  -- the numbers of a list are those of a range, in some order
  abbrev AreOf : List A → ℕ → ℕ → Type 0
  AreOf xs a k = (f : ℕ → ℕ) → sum_by (λ x. f (n x)) xs ≡ sum_by f (range_with_len a k)

  rest_rises : (x : A) (xs : List A) → IsNonDecreasingBy n (x ∷ xs) → IsNonDecreasingBy n xs
  rest_rises x xs h = λ i j d l m. h (suc i) (suc j) d (omega (arith, l)) (omega (arith, m))

  rest_above : (x : A) (xs : List A) → IsNonDecreasingBy n (x ∷ xs) → Each (λ y. n x ≤ n y) xs
  rest_above x xs h = all_each (λ y. n x ≤ n y) xs (λ j d m. h 0 (suc j) d (omega arith) (omega (arith, m)))

  each_more : (a b : ℕ) (xs : List A) → a ≤ b → Each (λ y. b ≤ n y) xs → Each (λ y. a ≤ n y) xs
  each_more a b [] l e = tt
  each_more a b (x ∷ xs) l e = (omega (arith, l, e.0), each_more a b xs l e.1)

  not_lower : (a k : ℕ) (x : A) (xs : List A) → AreOf (x ∷ xs) a k → a ≤ n x
  not_lower a k x xs of = go (cases_lt (n x) a)
    where
      go : (n x < a) ⊎ (a ≤ n x) → a ≤ n x
      go (inr l) = l
      go (inl l) = absurd (omega (arith, of (below a), sum_by-cons (λ y. below a (n y)) x xs, one_below a (n x) l, range_high a a k (omega arith)))

  not_higher : (a k : ℕ) (x : A) (xs : List A) → AreOf (x ∷ xs) a (suc k) → IsNonDecreasingBy n (x ∷ xs) → n x ≤ a
  not_higher a k x xs of rises = go (cases_lt a (n x))
    where
      go : (a < n x) ⊎ (n x ≤ a) → n x ≤ a
      go (inr l) = l
      go (inl l) =
          let m : a + 1 ≤ n x = omega (arith, l) in
          let none = high (a + 1) (x ∷ xs) (m, each_more (a + 1) (n x) xs m (rest_above x xs rises)) in
          absurd (omega (arith, of (below (a + 1)), none, sum_by-cons (below (a + 1)) a (range_with_len (a + 1) k), one_below (a + 1) a (omega arith)))

  are_range : (a k : ℕ) (xs : List A) → AreOf xs a k → IsNonDecreasingBy n xs → map n xs ≡ range_with_len a k
  are_range a zero [] of rises = refl
  are_range a zero (x ∷ xs) of rises = absurd (omega (arith, of (λ _. 1), sum_by-cons (λ (y : A). 1) x xs))
  are_range a (suc k) [] of rises = absurd (omega (arith, of (λ _. 1), sum_by-cons (λ (y : ℕ). 1) a (range_with_len (a + 1) k)))
  are_range a (suc k) (x ∷ xs) of rises =
      let same : n x ≡ a = omega (arith, not_lower a (suc k) x xs of, not_higher a k x xs of rises) in
      let more : AreOf xs (a + 1) k = λ f. omega (arith, of f, sum_by-cons (λ y. f (n y)) x xs, sum_by-cons f a (range_with_len (a + 1) k), ap f same) in
      ap (λ y. y ∷ map n xs) same ∙ ap (λ l. a ∷ l) (are_range (a + 1) k xs more (rest_rises x xs rises))

  pub numbers_are : (k : ℕ) (given xs : List A) → map n given ≡ range_with_len 0 k → IsPermutation given xs → IsNonDecreasingBy n xs → map n xs ≡ range_with_len 0 k
  numbers_are k given xs e same rises = are_range 0 k xs (λ f. sum_by-IsPermutation (λ x. f (n x)) given xs same ∙ sum_mapped f given ∙ ap (sum_by f) e) rises

  number_at : (k m : ℕ) (d : A) (xs : List A) → map n xs ≡ range_with_len 0 m → k < length xs → n (slice_index_or xs k d) ≡ k
  number_at k m d xs e h =
      let long : length xs ≡ m = sym (length-map xs n) ∙ ap length e ∙ length-range_with_len 0 m in
      sym (get_or-map n xs k d 0 h) ∙ ap (λ l. slice_index_or l k 0) e ∙ get_or-range_with_len 0 m k 0 (omega (arith, h, long)) ∙ omega arith

  -- lists with the same elements at their places
  same_places : (xs ys : List A) → length ys ≡ length xs → ((k : ℕ) (d : A) → k < length xs → slice_get ys k ≡ Some (slice_index_or xs k d)) → xs ≡ ys
  same_places [] [] e at = refl
  same_places [] (y ∷ ys) e at = absurd (omega (arith, e))
  same_places (x ∷ xs) [] e at = absurd (omega (arith, e))
  same_places (x ∷ xs) (y ∷ ys) e at =
      let z : Some y ≡ Some x = at 0 x (omega arith) in
      let one : y ≡ x = cc in
      ap (λ k. k ∷ xs) (sym one) ∙ ap (λ l. y ∷ l) (same_places xs ys (omega (arith, e)) (λ k d h. at (suc k) d (omega (arith, h))))

  -- a list whose numbers are their places is one, whatever order it was given in
  pub given_is : (m : ℕ) (given xs : List A) → map n given ≡ range_with_len 0 m → IsPermutation given xs → map n xs ≡ range_with_len 0 m → xs ≡ given
  given_is m given xs e same f =
      let P = λ (x : A). slice_get given (n x) ≡ Some x in
      let all = All-permutation P given xs same (λ k d h. ap (slice_get given) (number_at k m d given e h) ∙ slice_get-get_or given k d h) in
      same_places xs given (sym (length_permutation given xs same)) (λ k d h. sym (ap (slice_get given) (number_at k m d xs f h)) ∙ all k d h)

  -- numbers that are their places rise
  pub rises_by : (m : ℕ) (xs : List A) → map n xs ≡ range_with_len 0 m → IsNonDecreasingBy n xs
  rises_by m xs e = λ i j d l h. omega (arith, l, number_at i m d xs e (omega (arith, l, h)), number_at j m d xs e h)
