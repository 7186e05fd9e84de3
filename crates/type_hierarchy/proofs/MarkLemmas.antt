-- Marks of sets.
use Rattle.std.proofs.Common.{ℕ, ◌≡◌, ◌≢◌, ◌≤◌, ◌<◌, ◌+◌, ◌*◌, ◌/◌, ◌%◌, ◌^◌, ◌==◌, ◌&&◌, ◌⊎◌, inl, inr, true, false, List, [], ◌∷◌, ◌++◌, length, slice_index, slice_index_or, Vec, sym, ◌∙◌, ap, subst, arith, min, bit_and, bit_or, lit<}
use Rattle.std.specs.Global.{Global}
use Rattle.std.specs.Int.{bit_at, bit_not, w64}
use Rattle.std.proofs.lemmas.Bool.{cases_lt}
use Rattle.std.proofs.lemmas.Nat.{and_le_l, or_lt}
use Rattle.std.proofs.lemmas.Nat.Bits.{bit_at_and, bit_at-lt, bit_at-zero, bit_at_set_same, bit_at_set_other, bit_at_clear_same, bit_at_clear_other, bit_at_above, bit_at-trailing_zeros, same_from_bits_below}
use Rattle.std.proofs.lemmas.List.{length-append, get_or_append_left, get_or_at, get_or-map}
use Rattle.type_hierarchy.specs.Bits.{has_bit}
use Rattle.type_hierarchy.specs.Inner.Reach.{lists}
use Rattle.type_hierarchy.specs.Inner.Marks.{bit_of, IsMark}
use Rattle.type_hierarchy.proofs.BitLemmas.{small_cases, min_is, has_bit-past, has_bit-at, and_bit, zero_of, one_of, implied, implies}
use Rattle.type_hierarchy.proofs.SetLemmas.{differ, bool_cases, and_left, and_right}

cases_same : (j k : ℕ) → (j ≡ k) ⊎ (j ≢ k)
cases_same j k = go (cases_lt j k) (cases_lt k j)
  where
    go : (j < k) ⊎ (k ≤ j) → (k < j) ⊎ (j ≤ k) → (j ≡ k) ⊎ (j ≢ k)
    go (inl a) _ = inr (λ e. omega arith)
    go (inr a) (inl b) = inr (λ e. omega arith)
    go (inr a) (inr b) = inl (omega arith)

one_not_zero : (n : ℕ) → n ≡ 1 → n ≡ 0 → ⊥
one_not_zero n e f = omega arith

-- one word
pub word_apart : (a b : List ℕ) (k : ℕ) → slice_index a k < 2 ^ 64 → ((x : ℕ) → x / 64 ≡ k → (has_bit a x && has_bit b x) ≡ false) →
    bit_and (slice_index a k) (slice_index b k) ≡ 0
word_apart a b k fits none = same_from_bits_below 64 _ 0 (omega (arith, and_le_l (slice_index a k) (slice_index b k))) (lit< tt)
    (λ i h. zero_of _ (bit_at-lt (bit_and (slice_index a k) (slice_index b k)) i) (and_bit a b k i h ∙ none (64 * k + i) (omega arith)) ∙ sym (bit_at-zero i))

pub word_within : (a b : List ℕ) (k : ℕ) → slice_index a k < 2 ^ 64 → ((x : ℕ) → x / 64 ≡ k → has_bit a x ≡ true → has_bit b x ≡ true) →
    bit_and (slice_index a k) (slice_index b k) ≡ slice_index a k
word_within a b k fits sub = same_from_bits_below 64 _ _ (omega (arith, and_le_l (slice_index a k) (slice_index b k))) fits
    (λ i h. one_of _ _ (bit_at-lt (bit_and (slice_index a k) (slice_index b k)) i) (bit_at-lt (slice_index a k) i)
    (and_bit a b k i h ∙ implied _ _ (sub (64 * k + i) (omega arith)) ∙ has_bit-at a k i h))

both_bits : (a b : List ℕ) (x : ℕ) → (bit_at (bit_and (slice_index a (x / 64)) (slice_index b (x / 64))) (x % 64) == 1) ≡ (has_bit a x && has_bit b x)
both_bits a b x = ap (λ w. w == 1) (bit_at_and _ _ (x % 64)) ∙ min_is _ _ (bit_at-lt (slice_index a (x / 64)) (x % 64)) (bit_at-lt (slice_index b (x / 64)) (x % 64))

-- the words that a bit stands for
pub bit_apart : (a b : List ℕ) (g i : ℕ) → length a ≤ i → ((k : ℕ) → k < i → k % 64 ≡ g → bit_and (slice_index a k) (slice_index b k) ≡ 0) →
    (x : ℕ) → bit_of x ≡ g → (has_bit a x && has_bit b x) ≡ false
bit_apart a b g i all none x e = go (cases_lt (x / 64) i)
  where
    go : (x / 64 < i) ⊎ (i ≤ x / 64) → (has_bit a x && has_bit b x) ≡ false
    go (inl h) = sym (both_bits a b x) ∙ ap (λ w. bit_at w (x % 64) == 1) (none (x / 64) h e) ∙ ap (λ w. w == 1) (bit_at-zero (x % 64))
    go (inr h) = ap (λ p. p && has_bit b x) (has_bit-past a x (omega arith))

pub bit_within : (a b : List ℕ) (g i : ℕ) → length a ≤ i → ((k : ℕ) → k < i → k % 64 ≡ g → bit_and (slice_index a k) (slice_index b k) ≡ slice_index a k) →
    (x : ℕ) → bit_of x ≡ g → has_bit a x ≡ true → has_bit b x ≡ true
bit_within a b g i all sub x e = go (cases_lt (x / 64) i)
  where
    go : (x / 64 < i) ⊎ (i ≤ x / 64) → has_bit a x ≡ true → has_bit b x ≡ true
    go (inl h) = implies _ _ (sym (both_bits a b x) ∙ ap (λ w. bit_at w (x % 64) == 1) (sub (x / 64) h e))
    go (inr h) = λ m. absurd (differ _ m (has_bit-past a x (omega arith)))

-- the bits that are left of a mark, and what holds of the numbers whose bits are done
pub record IsLeft (mark left : ℕ) (P : ℕ → Type 0) : Type 0 where
  pub fits : left < 2 ^ 64
  pub rest : (g : ℕ) → bit_at left g ≡ 1 → bit_at mark g ≡ 1
  pub done : (x : ℕ) → bit_at mark (bit_of x) ≡ 1 → bit_at left (bit_of x) ≡ 0 → P x

pub left_first : (mark : ℕ) (P : ℕ → Type 0) → mark < 2 ^ 64 → IsLeft mark mark P
left_first mark P h = record { fits = h; rest = λ g e. e; done = λ x e f. absurd (one_not_zero _ e f) }

pub left_next : (mark left g : ℕ) (P : ℕ → Type 0) → g < 64 → ((x : ℕ) → bit_of x ≡ g → P x) → IsLeft mark left P →
    IsLeft mark (bit_and left (bit_not w64 (1 * 2 ^ g % 18446744073709551616))) P
left_next mark left g P h here l = record {
  fits = omega (arith, l.fits, and_le_l left (bit_not w64 (1 * 2 ^ g % 18446744073709551616)));
  rest = λ j e. rest j e (cases_same j g) (cases_lt j 64);
  done = λ x e f. done x e f (cases_same (bit_of x) g);
}
  where
    new : ℕ
    new = bit_and left (bit_not w64 (1 * 2 ^ g % 18446744073709551616))

    rest : (j : ℕ) → bit_at (bit_and left (bit_not w64 (1 * 2 ^ g % 18446744073709551616))) j ≡ 1 → (j ≡ g) ⊎ (j ≢ g) → (j < 64) ⊎ (64 ≤ j) → bit_at mark j ≡ 1
    rest j e (inl same) _ = absurd (one_not_zero _ e (ap (bit_at _) same ∙ bit_at_clear_same w64 left g h))
    rest j e (inr apart) (inl low) = l.rest j (sym (bit_at_clear_other w64 left g h j low apart) ∙ e)
    rest j e (inr apart) (inr high) =
        absurd (one_not_zero _ e (bit_at_above _ 64 j (omega (arith, l.fits, and_le_l left (bit_not w64 (1 * 2 ^ g % 18446744073709551616)))) high))

    done : (x : ℕ) → bit_at mark (bit_of x) ≡ 1 → bit_at (bit_and left (bit_not w64 (1 * 2 ^ g % 18446744073709551616))) (bit_of x) ≡ 0 → (bit_of x ≡ g) ⊎ (bit_of x ≢ g) → P x
    done x e f (inl same) = here x same
    done x e f (inr apart) = l.done x e (sym (bit_at_clear_other w64 left g h (bit_of x) (omega arith) apart) ∙ f)

pub left_less : (left g : ℕ) → g < 64 → bit_at left g ≡ 1 → bit_and left (bit_not w64 (1 * 2 ^ g % 18446744073709551616)) < left
left_less left g h e = go (cases_same (bit_and left (bit_not w64 (1 * 2 ^ g % 18446744073709551616))) left)
  where
    go : (bit_and left (bit_not w64 (1 * 2 ^ g % 18446744073709551616)) ≡ left) ⊎ (bit_and left (bit_not w64 (1 * 2 ^ g % 18446744073709551616)) ≢ left) →
        bit_and left (bit_not w64 (1 * 2 ^ g % 18446744073709551616)) < left
    go (inl same) = absurd (one_not_zero _ e (ap (λ n. bit_at n g) (sym same) ∙ bit_at_clear_same w64 left g h))
    go (inr apart) = omega (arith, and_le_l left (bit_not w64 (1 * 2 ^ g % 18446744073709551616)), apart)

pub left_none : (mark left : ℕ) (P : ℕ → Type 0) → left ≡ 0 → IsLeft mark left P → (x : ℕ) → bit_at mark (bit_of x) ≡ 1 → P x
left_none mark left P e l x m = l.done x m (ap (λ n. bit_at n (bit_of x)) e ∙ bit_at-zero (bit_of x))

-- the mark of the words before i
pub record IsMarkTo (words : List ℕ) (i mark : ℕ) : Type 0 where
  pub fits : mark < 2 ^ 64
  pub shows : (x : ℕ) → x / 64 < i → has_bit words x ≡ true → bit_at mark (bit_of x) ≡ 1
  pub tells : (g : ℕ) → bit_at mark g ≡ 1 → (x : ℕ) × (bit_of x ≡ g) × (has_bit words x ≡ true)

pub mark_none : (words : List ℕ) → IsMarkTo words 0 0
mark_none words = record {
  fits = lit< tt;
  shows = λ x h. absurd (omega arith);
  tells = λ g e. absurd (one_not_zero _ e (bit_at-zero g));
}

next : (n u : ℕ) → u < n + 1 → (u < n) ⊎ (u ≡ n)
next n u h = go (cases_lt u n)
  where
    go : (u < n) ⊎ (n ≤ u) → (u < n) ⊎ (u ≡ n)
    go (inl k) = inl k
    go (inr k) = inr (omega arith)

pub mark_skip : (words : List ℕ) (i mark : ℕ) → slice_index words i ≡ 0 → IsMarkTo words i mark → IsMarkTo words (i + 1) mark
mark_skip words i mark zero' m = record {
  fits = m.fits;
  shows = λ x h e. shows x e (next i (x / 64) h);
  tells = m.tells;
}
  where
    shows : (x : ℕ) → has_bit words x ≡ true → (x / 64 < i) ⊎ (x / 64 ≡ i) → bit_at mark (bit_of x) ≡ 1
    shows x e (inl h) = m.shows x h e
    shows x e (inr h) = absurd (differ _ e (ap (λ k. bit_at (slice_index words k) (x % 64) == 1) h ∙ ap (λ w. bit_at w (x % 64) == 1) zero' ∙ ap (λ w. w == 1) (bit_at-zero (x % 64))))

pub mark_add : (words : List ℕ) (i mark : ℕ) → slice_index words i < 2 ^ 64 → (slice_index words i ≡ 0 → ⊥) → IsMarkTo words i mark →
    IsMarkTo words (i + 1) (bit_or mark (1 * 2 ^ (i % 64) % 18446744073709551616))
mark_add words i mark fits some m = record {
  fits = or_lt 64 _ _ m.fits (omega arith);
  shows = λ x h e. shows x e (next i (x / 64) h) (cases_same (bit_of x) (i % 64));
  tells = λ g e. tells g e (cases_same g (i % 64));
}
  where
    shows : (x : ℕ) → has_bit words x ≡ true → (x / 64 < i) ⊎ (x / 64 ≡ i) → (bit_of x ≡ i % 64) ⊎ (bit_of x ≢ i % 64) → bit_at (bit_or mark (1 * 2 ^ (i % 64) % 18446744073709551616)) (bit_of x) ≡ 1
    shows x e _ (inl same) = ap (bit_at _) same ∙ bit_at_set_same w64 mark (i % 64) (omega arith)
    shows x e (inl h) (inr apart) = bit_at_set_other w64 mark (i % 64) (omega arith) (bit_of x) apart ∙ m.shows x h e
    shows x e (inr h) (inr apart) = absurd (apart (ap (λ k. k % 64) h))

    tells : (g : ℕ) → bit_at (bit_or mark (1 * 2 ^ (i % 64) % 18446744073709551616)) g ≡ 1 → (g ≡ i % 64) ⊎ (g ≢ i % 64) → (x : ℕ) × (bit_of x ≡ g) × (has_bit words x ≡ true)
    tells g e (inl same) =
        let low = bit_at-trailing_zeros w64 (slice_index words i) (omega (arith, some)) fits in
        (64 * i + _, omega (arith, low.0, same), has_bit-at words i _ low.0 ∙ ap (λ n. n == 1) low.1)
    tells g e (inr apart) = m.tells g (sym (bit_at_set_other w64 mark (i % 64) (omega arith) g apart) ∙ e)

pub mark_all : (words : List ℕ) (i mark : ℕ) → length words ≤ i → IsMarkTo words i mark → IsMark words mark
mark_all words i mark all m = record { fits = m.fits; shows = λ x e. go x e (cases_lt (x / 64) i); tells = m.tells }
  where
    go : (x : ℕ) → has_bit words x ≡ true → (x / 64 < i) ⊎ (i ≤ x / 64) → bit_at mark (bit_of x) ≡ 1
    go x e (inl h) = m.shows x h e
    go x e (inr h) = absurd (differ _ e (has_bit-past words x (omega arith)))

-- sets whose marks have no bit in common share no member
pub apart_by_marks : (a b : List ℕ) (m n : ℕ) → IsMark a m → IsMark b n →
    ((x : ℕ) → bit_at (bit_and m n) (bit_of x) ≡ 1 → (has_bit a x && has_bit b x) ≡ false) → (x : ℕ) → (has_bit a x && has_bit b x) ≡ false
apart_by_marks a b m n p q none x = go (bool_cases (has_bit a x && has_bit b x))
  where
    go : ((has_bit a x && has_bit b x) ≡ true) ⊎ ((has_bit a x && has_bit b x) ≡ false) → (has_bit a x && has_bit b x) ≡ false
    go (inr e) = e
    go (inl e) =
        let bit : bit_at (bit_and m n) (bit_of x) ≡ 1 = bit_at_and m n (bit_of x) ∙ ap (λ z. min z (bit_at n (bit_of x))) (p.shows x (and_left _ _ e)) ∙ ap (min 1) (q.shows x (and_right (has_bit a x) _ e)) in
        none x bit

-- a set whose mark has a bit that the other's lacks is no subset
pub marks_within : (a b : List ℕ) (m n : ℕ) → IsMark a m → IsMark b n → ((x : ℕ) → has_bit a x ≡ true → has_bit b x ≡ true) → bit_and m n ≡ m
marks_within a b m n p q sub = same_from_bits_below 64 _ _ (omega (arith, p.fits, and_le_l m n)) p.fits (λ i h. bit i (small_cases (bit_at m i) (bit_at-lt m i)))
  where
    bit : (i : ℕ) → (bit_at m i ≡ 0) ⊎ (bit_at m i ≡ 1) → bit_at (bit_and m n) i ≡ bit_at m i
    bit i (inl e) = let low : min 0 (bit_at n i) ≡ 0 = omega arith in bit_at_and m n i ∙ ap (λ z. min z (bit_at n i)) e ∙ low ∙ sym e
    bit i (inr e) =
        let x = p.tells i e in
        bit_at_and m n i ∙ ap (λ z. min z (bit_at n i)) e ∙ ap (min 1) (ap (bit_at n) (sym x.1) ∙ q.shows x.0 (sub x.0 x.2)) ∙ sym e

pub within_by_mark : (a b : List ℕ) (m : ℕ) → IsMark a m → ((x : ℕ) → bit_at m (bit_of x) ≡ 1 → has_bit a x ≡ true → has_bit b x ≡ true) → (x : ℕ) → has_bit a x ≡ true → has_bit b x ≡ true
within_by_mark a b m p sub x e = sub x (p.shows x e) e

-- one more mark
pub marks_push : (rows : List (Vec ℕ Global)) (marks new : List ℕ) (row : Vec ℕ Global) (i m : ℕ) → i < length rows → row ≡ slice_index_or rows i row → IsMark row.items m →
    new ≡ marks ++ m ∷ [] → length marks ≡ i → ((k : ℕ) → k < i → IsMark (slice_index_or (lists rows) k []) (slice_index marks k)) →
    (length new ≡ i + 1) × ((k : ℕ) → k < i + 1 → IsMark (slice_index_or (lists rows) k []) (slice_index new k))
marks_push rows marks new row i m h here is grown size each = (
  omega (arith, ap length grown, length-append marks (m ∷ []), size),
  λ k l. go k (next i k l),
)
  where
    go : (k : ℕ) → (k < i) ⊎ (k ≡ i) → IsMark (slice_index_or (lists rows) k []) (slice_index new k)
    go k (inl l) = subst (IsMark (slice_index_or (lists rows) k [])) (sym (ap (λ z. slice_index z k) grown ∙ get_or_append_left marks (m ∷ []) 0 k (omega (arith, size)))) (each k l)
    go k (inr e) = subst (λ j. IsMark (slice_index_or (lists rows) j []) (slice_index new j)) (sym e)
        (subst (λ z. IsMark z (slice_index new i)) (sym (get_or-map (λ v. v.items) rows i row [] h ∙ ap (λ v. v.items) (sym here)))
        (subst (IsMark row.items) (sym (ap (λ z. slice_index z i) grown ∙ get_or_at marks m [] 0 i size)) is))

pub bit_word : (x i g : ℕ) → x / 64 ≡ i → i % 64 ≡ g → bit_of x ≡ g
bit_word x i g e f = ap (λ k. k % 64) e ∙ f
