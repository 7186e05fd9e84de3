-- Bits of words.
use Rattle.std.proofs.Common.{ℕ, zero, suc, ◌≡◌, ◌≢◌, ◌≤◌, ◌<◌, ◌+◌, ◌-◌, ◌*◌, ◌/◌, ◌%◌, ◌^◌, ◌==◌, ◌&&◌, ◌||◌, ◌⊎◌, inl, inr, Bool, true, false, cond, List, [], ◌∷◌, ◌++◌, length, filter, slice_index, slice_index_or, slice_set, All, refl, sym, ◌∙◌, ap, subst, arith, max, min, bit_and, bit_or, add-one, lit<}
use Rattle.std.specs.Int.{bit_at, trailing_zeros, w64}
use Rattle.std.proofs.Math.Nat.{div-le_self, div-div-eq-div-mul}
use Rattle.std.specs.List.{range_with_len}
use Rattle.std.proofs.lemmas.Nat.Bits.{bit_at_and, bit_at_or, bit_at-lt, bit_at-zero, bit_at_set_same, bit_at_set_other, bit_at_above, bit_at-trailing_zeros, same_from_bits_below}
use Rattle.std.proofs.lemmas.List.{get_or-set_same, get_or-set_other, get_or_past, get_or_default, length-set, ext_get_or, append-nil, append_assoc}
use Rattle.std.proofs.lemmas.List.Elements.{filter-append}
use Rattle.std.proofs.lemmas.Nat.{and_le_l, or_lt, pow-add}
use Rattle.std.proofs.lemmas.Bool.{cases_lt}
use Rattle.type_hierarchy.specs.Bits.{has_bit, bits_below, IsRow}

pub small_cases : (p : ℕ) → p < 2 → (p ≡ 0) ⊎ (p ≡ 1)
small_cases zero h = inl refl
small_cases (suc zero) h = inr refl
small_cases (suc (suc p)) h = absurd (omega arith)

max_is : (p q : ℕ) → p < 2 → q < 2 → (max p q == 1) ≡ ((p == 1) || (q == 1))
max_is p q h k = go (small_cases p h) (small_cases q k)
  where
    go : (p ≡ 0) ⊎ (p ≡ 1) → (q ≡ 0) ⊎ (q ≡ 1) → (max p q == 1) ≡ ((p == 1) || (q == 1))
    go (inl a) (inl b) = rw (a, b) refl
    go (inl a) (inr b) = rw (a, b) refl
    go (inr a) (inl b) = rw (a, b) refl
    go (inr a) (inr b) = rw (a, b) refl

pub min_is : (p q : ℕ) → p < 2 → q < 2 → (min p q == 1) ≡ ((p == 1) && (q == 1))
min_is p q h k = go (small_cases p h) (small_cases q k)
  where
    go : (p ≡ 0) ⊎ (p ≡ 1) → (q ≡ 0) ⊎ (q ≡ 1) → (min p q == 1) ≡ ((p == 1) && (q == 1))
    go (inl a) (inl b) = rw (a, b) refl
    go (inl a) (inr b) = rw (a, b) refl
    go (inr a) (inl b) = rw (a, b) refl
    go (inr a) (inr b) = rw (a, b) refl

pub has_bit-or : (a b c : List ℕ) (x : ℕ) → slice_index c (x / 64) ≡ bit_or (slice_index a (x / 64)) (slice_index b (x / 64)) →
    has_bit c x ≡ (has_bit a x || has_bit b x)
has_bit-or a b c x e =
    ap (λ w. bit_at w (x % 64) == 1) e ∙ ap (λ w. w == 1) (bit_at_or _ _ (x % 64))
    ∙ max_is _ _ (bit_at-lt (slice_index a (x / 64)) (x % 64)) (bit_at-lt (slice_index b (x / 64)) (x % 64))

pub has_bit-and : (a b c : List ℕ) (x : ℕ) → slice_index c (x / 64) ≡ bit_and (slice_index a (x / 64)) (slice_index b (x / 64)) →
    has_bit c x ≡ (has_bit a x && has_bit b x)
has_bit-and a b c x e =
    ap (λ w. bit_at w (x % 64) == 1) e ∙ ap (λ w. w == 1) (bit_at_and _ _ (x % 64))
    ∙ min_is _ _ (bit_at-lt (slice_index a (x / 64)) (x % 64)) (bit_at-lt (slice_index b (x / 64)) (x % 64))

pub has_bit-past : (a : List ℕ) (x : ℕ) → 64 * length a ≤ x → has_bit a x ≡ false
has_bit-past a x h =
    ap (λ w. bit_at w (x % 64) == 1) (get_or_past a (x / 64) 0 (omega arith)) ∙ ap (λ w. w == 1) (bit_at-zero (x % 64))

pub none_in_empty : (a : List ℕ) (k x : ℕ) → slice_index a k ≡ 0 → k ≡ x / 64 → has_bit a x ≡ false
none_in_empty a k x e same =
    ap (λ w. bit_at w (x % 64) == 1) (subst (λ j. slice_index a j ≡ 0) same e) ∙ ap (λ w. w == 1) (bit_at-zero (x % 64))

-- the bit of a word: at 64 * k + i
pub has_bit-at : (a : List ℕ) (k i : ℕ) → i < 64 → has_bit a (64 * k + i) ≡ (bit_at (slice_index a k) i == 1)
has_bit-at a k i h =
    let q : (64 * k + i) / 64 ≡ k = omega arith in
    let r : (64 * k + i) % 64 ≡ i = omega arith in
    ap (λ y. bit_at (slice_index a y) ((64 * k + i) % 64) == 1) q ∙ ap (λ y. bit_at (slice_index a k) y == 1) r

pub one_of : (p q : ℕ) → p < 2 → q < 2 → (p == 1) ≡ (q == 1) → p ≡ q
one_of p q h k e = go (small_cases p h) (small_cases q k)
  where
    go : (p ≡ 0) ⊎ (p ≡ 1) → (q ≡ 0) ⊎ (q ≡ 1) → p ≡ q
    go (inl a) (inl b) = a ∙ sym b
    go (inl a) (inr b) = absurd (bad (rw (a, b) at e))
      where
        bad : false ≡ true → ⊥
        bad f = cc
    go (inr a) (inl b) = absurd (bad (rw (a, b) at e))
      where
        bad : true ≡ false → ⊥
        bad f = cc
    go (inr a) (inr b) = a ∙ sym b

-- words are known by their bits
pub words_same : (a b : List ℕ) → All (λ w. w < 2 ^ 64) a → All (λ w. w < 2 ^ 64) b → length a ≡ length b →
    ((x : ℕ) → has_bit a x ≡ has_bit b x) → a ≡ b
words_same a b fa fb len same = ext_get_or 0 a b len (λ k h. word k h)
  where
    word : (k : ℕ) → k < length a → slice_index_or a k 0 ≡ slice_index_or b k 0
    word k h = same_from_bits_below 64 _ _ (fa k 0 h) (fb k 0 (omega arith))
        (λ i l. one_of _ _ (bit_at-lt (slice_index a k) i) (bit_at-lt (slice_index b k) i)
        (sym (has_bit-at a k i l) ∙ same (64 * k + i) ∙ has_bit-at b k i l))

cases_same : (j k : ℕ) → (j ≡ k) ⊎ (j ≢ k)
cases_same j k = go (cases_lt j k) (cases_lt k j)
  where
    go : (j < k) ⊎ (k ≤ j) → (k < j) ⊎ (j ≤ k) → (j ≡ k) ⊎ (j ≢ k)
    go (inl a) _ = inr (λ e. omega arith)
    go (inr a) (inl b) = inr (λ e. omega arith)
    go (inr a) (inr b) = inl (omega arith)

pub has_bit-set_same : (a : List ℕ) (x : ℕ) → x < 64 * length a →
    has_bit (slice_set a (x / 64) (bit_or (slice_index a (x / 64)) (1 * 2 ^ (x % 64) % 18446744073709551616))) x ≡ true
has_bit-set_same a x h =
    ap (λ w. bit_at w (x % 64) == 1) (get_or-set_same a (x / 64) _ 0 (omega arith))
    ∙ ap (λ w. w == 1) (bit_at_set_same w64 (slice_index a (x / 64)) (x % 64) (omega arith))

pub has_bit-set_other : (a : List ℕ) (x y : ℕ) → x < 64 * length a → y ≢ x →
    has_bit (slice_set a (x / 64) (bit_or (slice_index a (x / 64)) (1 * 2 ^ (x % 64) % 18446744073709551616))) y ≡ has_bit a y
has_bit-set_other a x y h ne = go (cases_same (y / 64) (x / 64))
  where
    new : List ℕ
    new = slice_set a (x / 64) (bit_or (slice_index a (x / 64)) (1 * 2 ^ (x % 64) % 18446744073709551616))

    go : (y / 64 ≡ x / 64) ⊎ (y / 64 ≢ x / 64) →
        has_bit (slice_set a (x / 64) (bit_or (slice_index a (x / 64)) (1 * 2 ^ (x % 64) % 18446744073709551616))) y ≡ has_bit a y
    go (inr apart) = ap (λ w. bit_at w (y % 64) == 1) (get_or-set_other a (x / 64) (y / 64) _ 0 apart)
    go (inl same) =
        ap (λ k. bit_at (slice_index (slice_set a (x / 64) (bit_or (slice_index a (x / 64)) (1 * 2 ^ (x % 64) % 18446744073709551616))) k) (y % 64) == 1) same
        ∙ ap (λ w. bit_at w (y % 64) == 1) (get_or-set_same a (x / 64) _ 0 (omega arith))
        ∙ ap (λ w. w == 1) (bit_at_set_other w64 (slice_index a (x / 64)) (x % 64) (omega arith) (y % 64) (λ e. ne (omega arith)))
        ∙ ap (λ k. bit_at (slice_index a k) (y % 64) == 1) (sym same)

-- what a word-by-word loop has done below i
no_or : (p q r : Bool) → p ≡ false → q ≡ false → r ≡ false → r ≡ (p || q)
no_or p q r a b c = rw (a, b) c

no_and : (p q r : Bool) → p ≡ false → q ≡ false → r ≡ false → r ≡ (p && q)
no_and p q r a b c = rw a c

pub ored : (a b c : List ℕ) → length a ≡ length b → length c ≡ length a →
    ((k : ℕ) → k < length a → slice_index c k ≡ bit_or (slice_index a k) (slice_index b k)) → (x : ℕ) → has_bit c x ≡ (has_bit a x || has_bit b x)
ored a b c len len' each x = go (cases_lt (x / 64) (length a))
  where
    go : (x / 64 < length a) ⊎ (length a ≤ x / 64) → has_bit c x ≡ (has_bit a x || has_bit b x)
    go (inl h) = has_bit-or a b c x (each (x / 64) h)
    go (inr h) = no_or _ _ _ (has_bit-past a x (omega arith)) (has_bit-past b x (omega arith)) (has_bit-past c x (omega arith))

pub anded : (a b c : List ℕ) → length a ≡ length b → length c ≡ length a →
    ((k : ℕ) → k < length a → slice_index c k ≡ bit_and (slice_index a k) (slice_index b k)) → (x : ℕ) → has_bit c x ≡ (has_bit a x && has_bit b x)
anded a b c len len' each x = go (cases_lt (x / 64) (length a))
  where
    go : (x / 64 < length a) ⊎ (length a ≤ x / 64) → has_bit c x ≡ (has_bit a x && has_bit b x)
    go (inl h) = has_bit-and a b c x (each (x / 64) h)
    go (inr h) = no_and _ _ _ (has_bit-past a x (omega arith)) (has_bit-past b x (omega arith)) (has_bit-past c x (omega arith))

-- the bit at a place of a word, of an intersection of words
pub and_bit : (a b : List ℕ) (k i : ℕ) → i < 64 → (bit_at (bit_and (slice_index a k) (slice_index b k)) i == 1) ≡ (has_bit a (64 * k + i) && has_bit b (64 * k + i))
and_bit a b k i h =
    ap (λ w. w == 1) (bit_at_and _ _ i) ∙ min_is _ _ (bit_at-lt (slice_index a k) i) (bit_at-lt (slice_index b k) i)
    ∙ ap (λ p. p && (bit_at (slice_index b k) i == 1)) (sym (has_bit-at a k i h)) ∙ ap (λ p. has_bit a (64 * k + i) && p) (sym (has_bit-at b k i h))

pub zero_of : (p : ℕ) → p < 2 → (p == 1) ≡ false → p ≡ 0
zero_of p h e = go (small_cases p h)
  where
    go : (p ≡ 0) ⊎ (p ≡ 1) → p ≡ 0
    go (inl a) = a
    go (inr a) = absurd (bad (rw a at e))
      where
        bad : true ≡ false → ⊥
        bad f = cc

pub disjoint_word : (a b : List ℕ) (k : ℕ) → slice_index a k < 2 ^ 64 → ((x : ℕ) → (has_bit a x && has_bit b x) ≡ false) →
    bit_and (slice_index a k) (slice_index b k) ≡ 0
disjoint_word a b k fits none = same_from_bits_below 64 _ 0 (omega (arith, and_le_l (slice_index a k) (slice_index b k))) (lit< tt)
    (λ i h. zero_of _ (bit_at-lt (bit_and (slice_index a k) (slice_index b k)) i) (and_bit a b k i h ∙ none (64 * k + i)) ∙ sym (bit_at-zero i))

pub disjoint_bits : (a b : List ℕ) (n : ℕ) → length a ≤ n → ((k : ℕ) → k < n → bit_and (slice_index a k) (slice_index b k) ≡ 0) →
    (x : ℕ) → (has_bit a x && has_bit b x) ≡ false
disjoint_bits a b n all none x = go (cases_lt (x / 64) n)
  where
    go : (x / 64 < n) ⊎ (n ≤ x / 64) → (has_bit a x && has_bit b x) ≡ false
    go (inl h) = sym (ap (λ w. w == 1) (bit_at_and _ _ (x % 64)) ∙ min_is _ _ (bit_at-lt (slice_index a (x / 64)) (x % 64)) (bit_at-lt (slice_index b (x / 64)) (x % 64)))
        ∙ ap (λ w. bit_at w (x % 64) == 1) (none (x / 64) h) ∙ ap (λ w. w == 1) (bit_at-zero (x % 64))
    go (inr h) = rw (has_bit-past a x (omega arith)) refl

pub implied : (p q : Bool) → (p ≡ true → q ≡ true) → (p && q) ≡ p
implied true q h = h refl
implied false q h = refl

pub implies : (p q : Bool) → (p && q) ≡ p → p ≡ true → q ≡ true
implies true q h e = h
implies false q h e = cc

pub subset_bits : (a b : List ℕ) (n : ℕ) → length a ≤ n → ((k : ℕ) → k < n → bit_and (slice_index a k) (slice_index b k) ≡ slice_index a k) →
    (x : ℕ) → has_bit a x ≡ true → has_bit b x ≡ true
subset_bits a b n all sub x e = go (cases_lt (x / 64) n)
  where
    go : (x / 64 < n) ⊎ (n ≤ x / 64) → has_bit b x ≡ true
    go (inl h) = implies _ _ (sym (ap (λ w. w == 1) (bit_at_and _ _ (x % 64)) ∙ min_is _ _ (bit_at-lt (slice_index a (x / 64)) (x % 64)) (bit_at-lt (slice_index b (x / 64)) (x % 64)))
        ∙ ap (λ w. bit_at w (x % 64) == 1) (sub (x / 64) h)) e
    go (inr h) = absurd (bad (has_bit-past a x (omega arith)))
      where
        bad : has_bit a x ≡ false → ⊥
        bad f = cc

pub word_subset : (a b : List ℕ) (k : ℕ) → bit_and (slice_index a k) (slice_index b k) ≡ slice_index a k → (x : ℕ) → x / 64 ≡ k → has_bit a x ≡ true → has_bit b x ≡ true
word_subset a b k same x e = implies _ _ (sym (ap (λ w. w == 1) (bit_at_and _ _ (x % 64)) ∙ min_is _ _ (bit_at-lt (slice_index a (x / 64)) (x % 64)) (bit_at-lt (slice_index b (x / 64)) (x % 64)))
    ∙ ap (λ w. bit_at w (x % 64) == 1) (subst (λ j. bit_and (slice_index a j) (slice_index b j) ≡ slice_index a j) (sym e) same))

pub range_more : (a k : ℕ) → range_with_len a (k + 1) ≡ range_with_len a k ++ (a + k) ∷ []
range_more a k = ap (range_with_len a) (add-one k) ∙ go a k
  where
    go : (a k : ℕ) → range_with_len a (suc k) ≡ range_with_len a k ++ (a + k) ∷ []
    go a zero = ap (λ x. x ∷ []) (omega arith)
    go a (suc k) = ap (λ l. a ∷ l) (go (a + 1) k ∙ ap (λ x. range_with_len (a + 1) k ++ x ∷ []) (omega arith))

pub range_push : (n : ℕ) → range_with_len 0 (n + 1) ≡ range_with_len 0 n ++ n ∷ []
range_push n = range_more 0 n ∙ ap (λ x. range_with_len 0 n ++ x ∷ []) (same n)
  where
    same : (n : ℕ) → 0 + n ≡ n
    same n = omega arith

-- the numbers below m, and then those from m on
pub range_split : (m k : ℕ) → range_with_len 0 (m + k) ≡ range_with_len 0 m ++ range_with_len m k
range_split m k = go 0 m ∙ ap (λ a. range_with_len 0 m ++ range_with_len a k) (same m)
  where
    same : (m : ℕ) → 0 + m ≡ m
    same m = omega arith

    go : (a m : ℕ) → range_with_len a (m + k) ≡ range_with_len a m ++ range_with_len (a + m) k
    go a zero = ap (range_with_len a) (zero_left k) ∙ ap (λ b. range_with_len b k) (zero_right a)
      where
        zero_left : (n : ℕ) → 0 + n ≡ n
        zero_left n = omega arith

        zero_right : (n : ℕ) → n ≡ n + 0
        zero_right n = omega arith
    go a (suc m) =
        ap (range_with_len a) (shift m) ∙ ap (λ l. a ∷ l) (go (a + 1) m ∙ ap (λ b. range_with_len (a + 1) m ++ range_with_len b k) (omega arith))
      where
        shift : (m : ℕ) → suc m + k ≡ suc (m + k)
        shift m = omega arith

-- members of a stretch of numbers
pub stretch_next : (p : ℕ → Bool) (first items new : List ℕ) (from x : ℕ) → from ≤ x → p x ≡ true → items ≡ first ++ filter p (range_with_len from (x - from)) → new ≡ items ++ x ∷ [] →
    new ≡ first ++ filter p (range_with_len from (x + 1 - from))
stretch_next p first items new from x h e is grown =
    grown ∙ ap (λ l. l ++ x ∷ []) is ∙ append_assoc first (filter p (range_with_len from (x - from))) (x ∷ [])
    ∙ ap (λ l. first ++ l) (ap (λ b. filter p (range_with_len from (x - from)) ++ cond b (x ∷ []) []) (sym e) ∙ sym (filter-append p (range_with_len from (x - from)) (x ∷ []))
    ∙ ap (filter p) (ap (λ y. range_with_len from (x - from) ++ y ∷ []) (there x from h) ∙ sym (range_more from (x - from))) ∙ ap (λ n. filter p (range_with_len from n)) (size x from h))
  where
    there : (x from : ℕ) → from ≤ x → x ≡ from + (x - from)
    there x from h = omega arith

    size : (x from : ℕ) → from ≤ x → x - from + 1 ≡ x + 1 - from
    size x from h = omega arith

pub stretch_skip : (p : ℕ → Bool) (first items : List ℕ) (from x : ℕ) → from ≤ x → p x ≡ false → items ≡ first ++ filter p (range_with_len from (x - from)) →
    items ≡ first ++ filter p (range_with_len from (x + 1 - from))
stretch_skip p first items from x h e is =
    is ∙ ap (λ l. first ++ l) (sym (append-nil _) ∙ ap (λ b. filter p (range_with_len from (x - from)) ++ cond b (x ∷ []) []) (sym e) ∙ sym (filter-append p (range_with_len from (x - from)) (x ∷ []))
    ∙ ap (filter p) (ap (λ y. range_with_len from (x - from) ++ y ∷ []) (there x from h) ∙ sym (range_more from (x - from))) ∙ ap (λ n. filter p (range_with_len from n)) (size x from h))
  where
    there : (x from : ℕ) → from ≤ x → x ≡ from + (x - from)
    there x from h = omega arith

    size : (x from : ℕ) → from ≤ x → x - from + 1 ≡ x + 1 - from
    size x from h = omega arith

-- the members of one word more
pub members_more : (words items new : List ℕ) (from to : ℕ) → from ≤ to → items ≡ bits_below from words →
    new ≡ items ++ filter (has_bit words) (range_with_len from (to - from)) → new ≡ bits_below to words
members_more words items new from to h is grown =
    grown ∙ ap (λ l. l ++ filter (has_bit words) (range_with_len from (to - from))) is
    ∙ sym (filter-append (has_bit words) (range_with_len 0 from) (range_with_len from (to - from))) ∙ ap (filter (has_bit words)) (sym (range_split from (to - from)) ∙ ap (range_with_len 0) (size from to h))
  where
    size : (from to : ℕ) → from ≤ to → from + (to - from) ≡ to
    size from to h = omega arith

-- a stretch without members
filter_none : (p : ℕ → Bool) (a n : ℕ) → ((x : ℕ) → a ≤ x → x < a + n → p x ≡ false) → filter p (range_with_len a n) ≡ []
filter_none p a zero h = refl
filter_none p a (suc n) h =
    ap (λ b. cond b (a ∷ filter p (range_with_len (a + 1) n)) (filter p (range_with_len (a + 1) n))) (h a (omega arith) (omega arith))
    ∙ filter_none p (a + 1) n (λ x low high. h x (omega arith) (omega arith))

pub members_skip : (words items : List ℕ) (from to : ℕ) → from ≤ to → ((x : ℕ) → from ≤ x → x < to → has_bit words x ≡ false) → items ≡ bits_below from words → items ≡ bits_below to words
members_skip words items from to h none is =
    members_more words items items from to h is (sym (append-nil items) ∙ ap (λ l. items ++ l) (sym (filter_none (has_bit words) from (to - from) (λ x low high. none x low (omega arith)))))

-- the bits of a word that is shifted down
pub shifted : (w s i : ℕ) → bit_at (w / 2 ^ s) i ≡ bit_at w (s + i)
shifted w s i = ap (λ q. q % 2) (div-div-eq-div-mul w (2 ^ s) (2 ^ i) ∙ ap (λ d. w / d) (sym (pow-add 2 s i)))

-- a number whose word is that of an earlier one
pub bit_on : (words : List ℕ) (at i : ℕ) → at % 64 + i < 64 → has_bit words (at + i) ≡ (bit_at (slice_index words (at / 64) / 2 ^ (at % 64)) i == 1)
bit_on words at i h =
    let q : (at + i) / 64 ≡ at / 64 = omega arith in
    let r : (at + i) % 64 ≡ at % 64 + i = omega arith in
    ap (λ y. bit_at (slice_index words y) ((at + i) % 64) == 1) q ∙ ap (λ y. bit_at (slice_index words (at / 64)) y == 1) r ∙ ap (λ b. b == 1) (sym (shifted (slice_index words (at / 64)) (at % 64) i))

-- the first member from a number on, where its word has one
pub record IsNext (words : List ℕ) (at i : ℕ) : Type 0 where
  pub within : at % 64 + i < 64
  pub none_before : (x : ℕ) → at ≤ x → x < at + i → has_bit words x ≡ false
  pub member : has_bit words (at + i) ≡ true

pub next_in_word : (words : List ℕ) (at left : ℕ) → slice_index words (at / 64) < 2 ^ 64 → left ≡ slice_index words (at / 64) / 2 ^ (at % 64) → left ≢ 0 → IsNext words at (trailing_zeros w64 left)
next_in_word words at left fits is some = record {
  within = within;
  none_before = λ x low high.
      let there : at + (x - at) ≡ x = omega arith in
      subst (λ y. has_bit words y ≡ false) there (bit_on words at (x - at) (omega (arith, within)) ∙ ap (λ w. bit_at w (x - at) == 1) (sym is) ∙ ap (λ b. b == 1) (low_bits.1.1 (x - at) (omega arith)));
  member = bit_on words at (trailing_zeros w64 left) within ∙ ap (λ w. bit_at w (trailing_zeros w64 left) == 1) (sym is) ∙ ap (λ b. b == 1) low_bits.1.0;
}
  where
    small : left < 2 ^ 64
    small = omega (arith, is, fits, div-le_self (slice_index words (at / 64)) (2 ^ (at % 64)))

    low_bits : (trailing_zeros w64 left < 64) × ((bit_at left (trailing_zeros w64 left) ≡ 1) × ((i : ℕ) → i < trailing_zeros w64 left → bit_at left i ≡ 0))
    low_bits = let b = bit_at-trailing_zeros w64 left (omega arith) small in (b.0, (b.1, b.2))

    within : at % 64 + trailing_zeros w64 left < 64
    within = go (cases_lt (at % 64 + trailing_zeros w64 left) 64)
      where
        one_not_zero : (n : ℕ) → n ≡ 1 → n ≡ 0 → ⊥
        one_not_zero n e f = omega arith

        go : (at % 64 + trailing_zeros w64 left < 64) ⊎ (64 ≤ at % 64 + trailing_zeros w64 left) → at % 64 + trailing_zeros w64 left < 64
        go (inl h) = h
        go (inr h) = absurd (one_not_zero _ low_bits.1.0 (ap (λ w. bit_at w (trailing_zeros w64 left)) is ∙ shifted (slice_index words (at / 64)) (at % 64) (trailing_zeros w64 left) ∙ bit_at_above _ 64 _ fits h))

pub none_in_word : (words : List ℕ) (at left : ℕ) → left ≡ slice_index words (at / 64) / 2 ^ (at % 64) → left ≡ 0 → (x : ℕ) → at ≤ x → x < at + (64 - at % 64) → has_bit words x ≡ false
none_in_word words at left is none x low high =
    let there : at + (x - at) ≡ x = omega arith in
    subst (λ y. has_bit words y ≡ false) there (bit_on words at (x - at) (omega arith) ∙ ap (λ w. bit_at w (x - at) == 1) (sym is ∙ none) ∙ ap (λ b. b == 1) (bit_at-zero (x - at)))

pub filter_push : (p : ℕ → Bool) (n : ℕ) → p n ≡ true → filter p (range_with_len 0 n) ++ n ∷ [] ≡ filter p (range_with_len 0 (n + 1))
filter_push p n e = sym (ap (filter p) (range_push n) ∙ filter-append p (range_with_len 0 n) (n ∷ []) ∙ ap (λ b. filter p (range_with_len 0 n) ++ cond b (n ∷ []) []) e)

pub filter_skip : (p : ℕ → Bool) (n : ℕ) → p n ≡ false → filter p (range_with_len 0 n) ≡ filter p (range_with_len 0 (n + 1))
filter_skip p n e = sym (ap (filter p) (range_push n) ∙ filter-append p (range_with_len 0 n) (n ∷ []) ∙ ap (λ b. filter p (range_with_len 0 n) ++ cond b (n ∷ []) []) e ∙ append-nil _)

cover : (n : ℕ) (a c : List ℕ) → IsRow n a → length c ≡ length a → ((k : ℕ) → k < length a → slice_index c k < 2 ^ 64) →
    ((x : ℕ) → n ≤ x → has_bit c x ≡ false) → IsRow n c
cover n a c r len fit past = record {
  enough = omega (arith, r.enough, len);
  spare = omega (arith, r.spare, len);
  words_fit = λ k d h. subst (λ w. w < 2 ^ 64) (get_or_default c k 0 d h) (fit k (omega (arith, len)));
  none_past = past;
}

word_fits : (n : ℕ) (a : List ℕ) (k : ℕ) → IsRow n a → k < length a → slice_index a k < 2 ^ 64
word_fits n a k r h = r.words_fit k 0 h

pub row_added : (n : ℕ) (a : List ℕ) (x : ℕ) → x < n → x < 64 * length a → IsRow n a →
    IsRow n (slice_set a (x / 64) (bit_or (slice_index a (x / 64)) (1 * 2 ^ (x % 64) % 18446744073709551616)))
row_added n a x h k r = cover n a _ r (length-set a (x / 64) _) (λ j l. fit j l (cases_same j (x / 64)))
    (λ y l. has_bit-set_other a x y k (λ e. omega arith) ∙ r.none_past y l)
  where
    small : 1 * 2 ^ (x % 64) % 18446744073709551616 < 2 ^ 64
    small = omega arith

    fit : (j : ℕ) → j < length a → (j ≡ x / 64) ⊎ (j ≢ x / 64) → slice_index (slice_set a (x / 64) (bit_or (slice_index a (x / 64)) (1 * 2 ^ (x % 64) % 18446744073709551616))) j < 2 ^ 64
    fit j l (inl e) =
        subst (λ w. w < 2 ^ 64) (sym (ap (λ i. slice_index (slice_set a (x / 64) (bit_or (slice_index a (x / 64)) (1 * 2 ^ (x % 64) % 18446744073709551616))) i) e ∙ get_or-set_same a (x / 64) _ 0 (omega arith)))
        (or_lt 64 _ _ (word_fits n a (x / 64) r (omega arith)) small)
    fit j l (inr e) = subst (λ w. w < 2 ^ 64) (sym (get_or-set_other a (x / 64) j _ 0 e)) (word_fits n a j r l)

pub row_united : (n : ℕ) (a b c : List ℕ) → length c ≡ length a → length a ≡ length b → ((k : ℕ) → k < length a → slice_index c k ≡ bit_or (slice_index a k) (slice_index b k)) →
    IsRow n a → IsRow n b → IsRow n c
row_united n a b c len len' each r s = cover n a c r len
    (λ k h. subst (λ w. w < 2 ^ 64) (sym (each k h)) (or_lt 64 _ _ (word_fits n a k r h) (word_fits n b k s (omega (arith, len')))))
    (λ x h. ored a b c len' len each x ∙ sym (no_or _ _ false (r.none_past x h) (s.none_past x h) refl))

pub row_retained : (n : ℕ) (a b c : List ℕ) → length c ≡ length a → length a ≡ length b → ((k : ℕ) → k < length a → slice_index c k ≡ bit_and (slice_index a k) (slice_index b k)) →
    IsRow n a → IsRow n c
row_retained n a b c len len' each r = cover n a c r len
    (λ k h. subst (λ w. w < 2 ^ 64) (sym (each k h)) (omega (arith, word_fits n a k r h, and_le_l (slice_index a k) (slice_index b k))))
    (λ x h. anded a b c len' len each x ∙ ap (λ p. p && has_bit b x) (r.none_past x h))

-- a word more at a place
pub word_here : (a : List ℕ) (k w x : ℕ) → k < length a → x / 64 ≡ k → has_bit (slice_set a k (bit_or (slice_index a k) w)) x ≡ (has_bit a x || (bit_at w (x % 64) == 1))
word_here a k w x h e =
    ap (λ j. bit_at (slice_index (slice_set a k (bit_or (slice_index a k) w)) j) (x % 64) == 1) e ∙ ap (λ v. bit_at v (x % 64) == 1) (get_or-set_same a k _ 0 h)
    ∙ ap (λ v. v == 1) (bit_at_or _ _ (x % 64)) ∙ max_is _ _ (bit_at-lt (slice_index a k) (x % 64)) (bit_at-lt w (x % 64))
    ∙ ap (λ j. (bit_at (slice_index a j) (x % 64) == 1) || (bit_at w (x % 64) == 1)) (sym e)

pub word_apart : (a : List ℕ) (k w x : ℕ) → x / 64 ≢ k → has_bit (slice_set a k (bit_or (slice_index a k) w)) x ≡ has_bit a x
word_apart a k w x ne = ap (λ v. bit_at v (x % 64) == 1) (get_or-set_other a k (x / 64) _ 0 ne)

pub row_with_word : (n : ℕ) (a : List ℕ) (k w : ℕ) → k < length a → w < 2 ^ 64 → ((i : ℕ) → i < 64 → (bit_at w i == 1) ≡ true → 64 * k + i < n) → IsRow n a →
    IsRow n (slice_set a k (bit_or (slice_index a k) w))
row_with_word n a k w h small ends r = cover n a _ r (length-set a k _) (λ j l. fit j l (cases_same j k)) (λ x l. past x l (cases_same (x / 64) k))
  where
    fit : (j : ℕ) → j < length a → (j ≡ k) ⊎ (j ≢ k) → slice_index (slice_set a k (bit_or (slice_index a k) w)) j < 2 ^ 64
    fit j l (inl e) =
        subst (λ v. v < 2 ^ 64) (sym (ap (slice_index (slice_set a k (bit_or (slice_index a k) w))) e ∙ get_or-set_same a k _ 0 h)) (or_lt 64 _ _ (word_fits n a k r h) small)
    fit j l (inr e) = subst (λ v. v < 2 ^ 64) (sym (get_or-set_other a k j _ 0 e)) (word_fits n a j r l)

    unset : (x : ℕ) → n ≤ x → x / 64 ≡ k → (b : Bool) → (bit_at w (x % 64) == 1) ≡ b → b ≡ false
    unset x l e false f = refl
    unset x l e true f = let less = ends (x % 64) (omega arith) f in absurd (omega arith)

    past : (x : ℕ) → n ≤ x → (x / 64 ≡ k) ⊎ (x / 64 ≢ k) → has_bit (slice_set a k (bit_or (slice_index a k) w)) x ≡ false
    past x l (inl e) = word_here a k w x h e ∙ sym (no_or _ _ false (r.none_past x l) (unset x l e (bit_at w (x % 64) == 1) refl) refl)
    past x l (inr e) = word_apart a k w x e ∙ r.none_past x l
