-- Squares of bits, and what a round does to them.
use Rattle.std.proofs.Common.{ℕ, zero, suc, ◌≡◌, ◌≤◌, ◌<◌, ◌+◌, ◌-◌, ◌*◌, ◌/◌, ◌%◌, ◌^◌, ◌==◌, ◌&&◌, ◌||◌, ◌⊎◌, inl, inr, Bool, true, cond, List, length, slice_index, slice_set, nat_lt, bit_and, bit_or, refl, sym, ◌∙◌, ap, subst, arith, lit<}
use Rattle.std.specs.Int.{bit_at, bit_not, w64}
use Rattle.std.proofs.Math.Nat.{mul-mod_left}
use Rattle.std.proofs.Math.Pow.{mod-mod-pow}
use Rattle.std.proofs.lemmas.Bool.{cases_lt}
use Rattle.std.proofs.lemmas.List.{get_or-set_same, get_or-set_other, length-set}
use Rattle.std.proofs.lemmas.Nat.{field_of, shl-shr, shr-shr}
use Rattle.std.proofs.lemmas.Nat.Bits.{bit_at_and, bit_at_or, bit_at_not, bit_at-lt, bit_at-zero}
use Rattle.type_hierarchy.specs.Inner.Columns.{cell, row_before, column_before, IsMask, IsTurned}
use Rattle.type_hierarchy.proofs.BitLemmas.{small_cases, shifted}
use Rattle.type_hierarchy.proofs.SetLemmas.{and_left, and_right, or_cases, lt_of, eq_of}

-- a bit of a number of which the higher bits were dropped
bit_of_low : (y k c : ℕ) → c < k → bit_at (y % 2 ^ k) c ≡ bit_at y c
bit_of_low y k c h = subst (λ e. bit_at (y % 2 ^ e) c ≡ bit_at y c) there (at (k - 1 - c))
  where
    there : (k - 1 - c) + 1 + c ≡ k
    there = omega arith

    at : (d : ℕ) → bit_at (y % 2 ^ (d + 1 + c)) c ≡ bit_at y c
    at d = ap (λ q. q % 2) (field_of y (d + 1) c) ∙ mod-mod-pow (y / 2 ^ c) d 1

-- the bits of a word that is shifted up
bit_up : (x s c : ℕ) → s ≤ c → bit_at (x * 2 ^ s) c ≡ bit_at x (c - s)
bit_up x s c h =
    let there : c ≡ s + (c - s) = omega arith in
    ap (λ e. x * 2 ^ s / 2 ^ e % 2) there ∙ ap (λ q. q % 2) (sym (shr-shr (x * 2 ^ s) s (c - s))) ∙ ap (λ q. q / 2 ^ (c - s) % 2) (shl-shr x s)

bit_under : (x s c : ℕ) → c < s → bit_at (x * 2 ^ s) c ≡ 0
bit_under x s c h = sym (bit_of_low (x * 2 ^ s) s c h) ∙ ap (λ q. bit_at q c) (mul-mod_left x (2 ^ s)) ∙ bit_at-zero c

-- the two words that a round makes of two
abbrev pub low_word : ℕ → ℕ → ℕ → ℕ → ℕ
low_word s m low high = bit_or (bit_and low m) (bit_and high m * 2 ^ s % 2 ^ 64)

abbrev pub high_word : ℕ → ℕ → ℕ → ℕ → ℕ
high_word s m low high = bit_or (bit_and (low / 2 ^ s) m) (bit_and high (bit_not w64 m))

low_lacks : (s m low high c : ℕ) → IsMask s m → c < 64 → c / s % 2 ≡ 0 → bit_at (low_word s m low high) c ≡ bit_at low c
low_lacks s m low high c k h e = go (cases_lt c s)
  where
    first : bit_at m c ≡ 1
    first = (k.lacks c h e).0

    over : bit_at (bit_and high m * 2 ^ s % 2 ^ 64) c ≡ 0 → bit_at (low_word s m low high) c ≡ bit_at low c
    over z = omega (arith, bit_at_or (bit_and low m) (bit_and high m * 2 ^ s % 2 ^ 64) c, bit_at_and low m c, first, z, bit_at-lt low c)

    go : (c < s) ⊎ (s ≤ c) → bit_at (low_word s m low high) c ≡ bit_at low c
    go (inl l) = over (bit_of_low (bit_and high m * 2 ^ s) 64 c h ∙ bit_under (bit_and high m) s c l)
    go (inr l) = over (bit_of_low (bit_and high m * 2 ^ s) 64 c h ∙ bit_up (bit_and high m) s c l ∙ omega (arith, bit_at_and high m (c - s), (k.lacks c h e).1 l))

low_has : (s m low high c : ℕ) → IsMask s m → c < 64 → c / s % 2 ≡ 1 → bit_at (low_word s m low high) c ≡ bit_at high (c - s)
low_has s m low high c k h e =
    let facts = k.has c h e in
    let moved = bit_of_low (bit_and high m * 2 ^ s) 64 c h ∙ bit_up (bit_and high m) s c facts.1 in
    omega (arith, bit_at_or (bit_and low m) (bit_and high m * 2 ^ s % 2 ^ 64) c, bit_at_and low m c, facts.0, moved, bit_at_and high m (c - s), facts.2, bit_at-lt high (c - s))

high_lacks : (s m low high c : ℕ) → m < 2 ^ 64 → IsMask s m → c < 64 → c / s % 2 ≡ 0 → bit_at (high_word s m low high) c ≡ bit_at low (c + s)
high_lacks s m low high c fits k h e =
    let there : s + c ≡ c + s = omega arith in
    let moved = shifted low s c ∙ ap (bit_at low) there in
    omega (
      arith,
      bit_at_or (bit_and (low / 2 ^ s) m) (bit_and high (bit_not w64 m)) c,
      bit_at_and (low / 2 ^ s) m c,
      bit_at_and high (bit_not w64 m) c,
      bit_at_not w64 m c fits h,
      (k.lacks c h e).0,
      moved,
      bit_at-lt low (c + s),
    )

high_has : (s m low high c : ℕ) → m < 2 ^ 64 → IsMask s m → c < 64 → c / s % 2 ≡ 1 → bit_at (high_word s m low high) c ≡ bit_at high c
high_has s m low high c fits k h e =
    omega (
      arith,
      bit_at_or (bit_and (low / 2 ^ s) m) (bit_and high (bit_not w64 m)) c,
      bit_at_and (low / 2 ^ s) m c,
      bit_at_and high (bit_not w64 m) c,
      bit_at_not w64 m c fits h,
      (k.has c h e).0,
      bit_at-lt high c,
    )

-- the first words that a round made
abbrev pub HasMade : ℕ → ℕ → List ℕ → List ℕ → ℕ → Type 0
HasMade s m old new i =
    (k : ℕ) → k < i → (slice_index new (2 * k) ≡ low_word s m (slice_index old k) (slice_index old (k + 32)))
    × (slice_index new (2 * k + 1) ≡ high_word s m (slice_index old k) (slice_index old (k + 32)))

pub made_more : (s m : ℕ) (old new next : List ℕ) (i low high : ℕ) → i < 32 → length new ≡ 64 → HasMade s m old new i →
    low ≡ low_word s m (slice_index old i) (slice_index old (i + 32)) → high ≡ high_word s m (slice_index old i) (slice_index old (i + 32)) →
    next ≡ slice_set (slice_set new (2 * i) low) (2 * i + 1) high → HasMade s m old next (i + 1)
made_more s m old new next i low high i_in len made a b is k h = go (cases_lt k i)
  where
    at : (j : ℕ) → slice_index next j ≡ slice_index (slice_set (slice_set new (2 * i) low) (2 * i + 1) high) j
    at j = ap (λ l. slice_index l j) is

    go : (k < i) ⊎ (i ≤ k) → (slice_index next (2 * k) ≡ low_word s m (slice_index old k) (slice_index old (k + 32)))
        × (slice_index next (2 * k + 1) ≡ high_word s m (slice_index old k) (slice_index old (k + 32)))
    go (inl l) = (
      at (2 * k) ∙ get_or-set_other (slice_set new (2 * i) low) (2 * i + 1) (2 * k) high 0 (λ e. omega arith) ∙ get_or-set_other new (2 * i) (2 * k) low 0 (λ e. omega arith) ∙ (made k l).0,
      at (2 * k + 1) ∙ get_or-set_other (slice_set new (2 * i) low) (2 * i + 1) (2 * k + 1) high 0 (λ e. omega arith) ∙ get_or-set_other new (2 * i) (2 * k + 1) low 0 (λ e. omega arith)
          ∙ (made k l).1,
    )
    go (inr l) =
        let e : k ≡ i = omega arith in
        subst (λ j. (slice_index next (2 * j) ≡ low_word s m (slice_index old j) (slice_index old (j + 32)))
        × (slice_index next (2 * j + 1) ≡ high_word s m (slice_index old j) (slice_index old (j + 32)))) (sym e) (
          at (2 * i) ∙ get_or-set_other (slice_set new (2 * i) low) (2 * i + 1) (2 * i) high 0 (λ f. omega arith) ∙ get_or-set_same new (2 * i) low 0 (omega (arith, len, i_in)) ∙ a,
          at (2 * i + 1) ∙ get_or-set_same (slice_set new (2 * i) low) (2 * i + 1) high 0 (omega (arith, len, i_in, length-set new (2 * i) low)) ∙ b,
        )

times_none : (s v : ℕ) → v ≡ 0 → s * v ≡ 0
times_none s v e = ap (λ x. s * x) e ∙ omega arith

times_once : (s v : ℕ) → v ≡ 1 → s * v ≡ s
times_once s v e = ap (λ x. s * x) e ∙ omega arith

pub made_turned : (s m : ℕ) (old new : List ℕ) → m < 2 ^ 64 → IsMask s m → HasMade s m old new 32 → IsTurned s old new
made_turned s m old new fits mask made r c h l = go (small_cases (r % 2) (omega arith)) (small_cases (c / s % 2) (omega arith))
  where
    at : (row column word : ℕ) → slice_index new r ≡ word → bit_at word c ≡ bit_at (slice_index old row) column → row ≡ row_before s r c → column ≡ column_before s r c →
        cell new r c ≡ cell old (row_before s r c) (column_before s r c)
    at row column word is bit a b =
        ap (λ w. bit_at w c == 1) is ∙ ap (λ b. b == 1) bit ∙ ap (λ j. bit_at (slice_index old j) column == 1) a ∙ ap (λ j. bit_at (slice_index old (row_before s r c)) j == 1) b

    even : r % 2 ≡ 0 → slice_index new r ≡ low_word s m (slice_index old (r / 2)) (slice_index old (r / 2 + 32))
    even e = let there : r ≡ 2 * (r / 2) = omega arith in ap (slice_index new) there ∙ (made (r / 2) (omega arith)).0

    odd : r % 2 ≡ 1 → slice_index new r ≡ high_word s m (slice_index old (r / 2)) (slice_index old (r / 2 + 32))
    odd e = let there : r ≡ 2 * (r / 2) + 1 = omega arith in ap (slice_index new) there ∙ (made (r / 2) (omega arith)).1

    go : (r % 2 ≡ 0) ⊎ (r % 2 ≡ 1) → (c / s % 2 ≡ 0) ⊎ (c / s % 2 ≡ 1) → cell new r c ≡ cell old (row_before s r c) (column_before s r c)
    go (inl a) (inl b) = at (r / 2) c _ (even a) (low_lacks s m _ _ c mask l b) (omega (arith, b)) (omega (arith, times_none s _ b, times_none s _ a))
    go (inl a) (inr b) = at (r / 2 + 32) (c - s) _ (even a) (low_has s m _ _ c mask l b) (omega (arith, b)) (omega (arith, times_once s _ b, times_none s _ a))
    go (inr a) (inl b) = at (r / 2) (c + s) _ (odd a) (high_lacks s m _ _ c fits mask l b) (omega (arith, b)) (omega (arith, times_none s _ b, times_once s _ a))
    go (inr a) (inr b) =
        at (r / 2 + 32) c _ (odd a) (high_has s m _ _ c fits mask l b) (omega (arith, b)) (omega (arith, times_once s _ b, times_once s _ a, (mask.has c l b).1))

-- a test of each number below n
abbrev test_below : ℕ → (ℕ → Bool) → Bool
test_below zero p = true
test_below (suc n) p = p n && test_below n p

tested : (n : ℕ) (p : ℕ → Bool) → test_below n p ≡ true → (c : ℕ) → c < n → p c ≡ true
tested zero p e c h = absurd (omega arith)
tested (suc n) p e c h = go (tested n p (and_right (p n) _ e) c) (cases_lt c n)
  where
    go : (c < n → p c ≡ true) → (c < n) ⊎ (n ≤ c) → p c ≡ true
    go earlier (inl l) = earlier l
    go _ (inr l) = let same : n ≡ c = omega arith in subst (λ j. p j ≡ true) same (and_left (p n) _ e)

-- the columns of a mask, computed
abbrev fits_lacking : ℕ → ℕ → ℕ → Bool
fits_lacking s m c = (bit_at m c == 1) && (nat_lt c s || (bit_at m (c - s) == 0))

abbrev fits_having : ℕ → ℕ → ℕ → Bool
fits_having s m c = (bit_at m c == 0) && (nat_lt s (c + 1) && (bit_at m (c - s) == 1))

abbrev fits_mask : ℕ → ℕ → ℕ → Bool
fits_mask s m c = cond (c / s % 2 == 0) (fits_lacking s m c) (fits_having s m c)

mask_tested : (s m : ℕ) → s < 64 → test_below 64 (fits_mask s m) ≡ true → IsMask s m
mask_tested s m small e = record {
  within = small;
  lacks = λ c h f.
      let t = ap (λ v. cond (v == 0) (fits_lacking s m c) (fits_having s m c)) (sym f) ∙ tested 64 (fits_mask s m) e c h in
      (eq_of _ 1 (and_left _ _ t), λ l. none c l (or_cases _ _ (and_right _ _ t)));
  has = λ c h f.
      let t = ap (λ v. cond (v == 0) (fits_lacking s m c) (fits_having s m c)) (sym f) ∙ tested 64 (fits_mask s m) e c h in
      let u = and_right (bit_at m c == 0) _ t in
      let l = lt_of s (c + 1) (and_left _ _ u) in
      (eq_of _ 0 (and_left _ _ t), omega arith, eq_of _ 1 (and_right _ _ u));
}
  where
    none : (c : ℕ) → s ≤ c → (nat_lt c s ≡ true) ⊎ ((bit_at m (c - s) == 0) ≡ true) → bit_at m (c - s) ≡ 0
    none c l (inl a) = let less = lt_of c s a in absurd (omega arith)
    none c l (inr b) = eq_of _ 0 b

pub mask_32 : IsMask 32 4294967295
mask_32 = mask_tested 32 4294967295 (lit< tt) refl

pub mask_16 : IsMask 16 281470681808895
mask_16 = mask_tested 16 281470681808895 (lit< tt) refl

pub mask_8 : IsMask 8 71777214294589695
mask_8 = mask_tested 8 71777214294589695 (lit< tt) refl

pub mask_4 : IsMask 4 1085102592571150095
mask_4 = mask_tested 4 1085102592571150095 (lit< tt) refl

pub mask_2 : IsMask 2 3689348814741910323
mask_2 = mask_tested 2 3689348814741910323 (lit< tt) refl

pub mask_1 : IsMask 1 6148914691236517205
mask_1 = mask_tested 1 6148914691236517205 (lit< tt) refl

-- where a bit comes from in all rounds, computed
abbrev via : ℕ → (ℕ → ℕ → Bool) → ℕ → ℕ → Bool
via s k r c = (nat_lt (row_before s r c) 64 && nat_lt (column_before s r c) 64) && k (row_before s r c) (column_before s r c)

abbrev ends : ℕ → ℕ → ℕ → ℕ → Bool
ends r c row column = (row == c) && (column == r)

abbrev way : ℕ → ℕ → Bool
way r c = via 1 (via 2 (via 4 (via 8 (via 16 (via 32 (ends r c)))))) r c

ways : test_below 64 (λ r. test_below 64 (way r)) ≡ true
ways = refl

along : (s : ℕ) (old new : List ℕ) (k : ℕ → ℕ → Bool) (t : Bool) → IsTurned s old new → ((r c : ℕ) → r < 64 → c < 64 → k r c ≡ true → cell old r c ≡ t) →
    (r c : ℕ) → r < 64 → c < 64 → via s k r c ≡ true → cell new r c ≡ t
along s old new k t turned next r c h l e =
    let inside = and_left (nat_lt (row_before s r c) 64 && nat_lt (column_before s r c) 64) (k (row_before s r c) (column_before s r c)) e in
    turned r c h l
    ∙ next (row_before s r c) (column_before s r c) (lt_of _ 64 (and_left (nat_lt (row_before s r c) 64) _ inside)) (lt_of _ 64 (and_right (nat_lt (row_before s r c) 64) _ inside))
    (and_right (nat_lt (row_before s r c) 64 && nat_lt (column_before s r c) 64) _ e)

pub turned_all : (a b c d e f g : List ℕ) → IsTurned 32 a b → IsTurned 16 b c → IsTurned 8 c d → IsTurned 4 d e → IsTurned 2 e f → IsTurned 1 f g →
    (x y : ℕ) → x < 64 → y < 64 → cell g x y ≡ cell a y x
turned_all a b c d e f g t32 t16 t8 t4 t2 t1 x y h l =
    along 1 f g (via 2 (via 4 (via 8 (via 16 (via 32 (ends x y)))))) (cell a y x) t1
    (along 2 e f (via 4 (via 8 (via 16 (via 32 (ends x y))))) (cell a y x) t2
    (along 4 d e (via 8 (via 16 (via 32 (ends x y)))) (cell a y x) t4
    (along 8 c d (via 16 (via 32 (ends x y))) (cell a y x) t8
    (along 16 b c (via 32 (ends x y)) (cell a y x) t16
    (along 32 a b (ends x y) (cell a y x) t32 last))))) x y h l
    (tested 64 (way x) (tested 64 (λ r. test_below 64 (way r)) ways x h) y l)
  where
    last : (row column : ℕ) → row < 64 → column < 64 → ends x y row column ≡ true → cell a row column ≡ cell a y x
    last row column _ _ k =
        ap (λ j. cell a j column) (eq_of row y (and_left (row == y) _ k)) ∙ ap (cell a y) (eq_of column x (and_right (row == y) _ k))
