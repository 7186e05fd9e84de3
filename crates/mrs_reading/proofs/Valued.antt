-- Names, sorts and predicates in lower case.
use Rattle.std.proofs.Common.{◌≡◌, ℕ, zero, suc, ◌+◌, ◌-◌, ◌∙◌, ◌<◌, ◌≤◌, ◌⊎◌, inl, inr, Bool, true, false, cond, ◌&&◌, ◌||◌, not, List, [], ◌∷◌, ◌++◌, map, refl, ap, sym, subst, append-nil, length, get_or, codes, arith, ltb, leb}
use Rattle.std.specs.List.{All}
use Rattle.std.specs.Str.{chars, encode_utf8_all, str_to_ascii_lowercase}
use Rattle.std.specs.Char.{encode_utf8, is_ascii_alphabetic, to_ascii_lowercase}
use Rattle.std.proofs.lemmas.Bool.{cases_lt, ltb-true, leb-true}
use Rattle.std.proofs.lemmas.List.{map-append, length-map}
use Rattle.std.proofs.lemmas.List.Elements.{All-nil, All-cons, All-head, All-tail}
use Rattle.std.proofs.lemmas.Str.{chars-encodes, inside_one, encode_ascii, length-le-encodes}
use Rattle.std.proofs.lemmas.Str.Ascii.{lowercase_ascii, lowercase_is}
use lib.Utf8.{scalar, scalars, low_scalar}
use Rattle.mrs_model.specs.Texts.{ends_name, is_capital, IsName, IsSort, IsPred}
use Rattle.mrs_spelling.specs.Forms.{in_name, has}
use Rattle.mrs_spelling.specs.Conditions.{lower}
use Rattle.mrs_reading.specs.Meaning.{Normal, bare, with_rel, letters_of}
use Rattle.mrs_reading.proofs.Texting.{IsRun, HasLetter}

-- characters in lower case
high_same : (c : ℕ) → 128 ≤ c → to_ascii_lowercase c ≡ c
high_same c l = (lowercase_is c).2 (omega (arith, l))

bytes_same : (bs : List ℕ) → ((k : ℕ) → k < length bs → 128 ≤ get_or bs k 0) → map to_ascii_lowercase bs ≡ bs
bytes_same [] h = refl
bytes_same (b ∷ bs) h = let e = high_same b (h 0 (omega arith)) in let f = bytes_same bs (λ k l. h (suc k) (omega (arith, l))) in cc

high_bytes : (c : ℕ) → 128 ≤ c → (k : ℕ) → k < length (encode_utf8 c) → 128 ≤ get_or (encode_utf8 c) k 0
high_bytes c l k m = elim (cases_lt (get_or (encode_utf8 c) k 0) 128) [
  | inl n ↦ absurd (let e = inside_one c [] (encode_utf8 c) k (sym (append-nil (encode_utf8 c))) m n in omega (arith, e, n, l))
  | inr n ↦ n
]

one_lower : (c : ℕ) → map to_ascii_lowercase (encode_utf8 c) ≡ encode_utf8 (to_ascii_lowercase c)
one_lower c = elim (cases_lt c 128) [
  | inl l ↦ ap (map to_ascii_lowercase) (encode_ascii c l) ∙ sym (encode_ascii (to_ascii_lowercase c) (lowercase_ascii c l))
  | inr l ↦ bytes_same (encode_utf8 c) (high_bytes c l) ∙ ap encode_utf8 (sym (high_same c l))
]

all_lower : (cs : List ℕ) → map to_ascii_lowercase (encode_utf8_all cs) ≡ encode_utf8_all (map to_ascii_lowercase cs)
all_lower [] = refl
all_lower (c ∷ cs) = map-append to_ascii_lowercase (encode_utf8 c) (encode_utf8_all cs) ∙ (let a = one_lower c in let b = all_lower cs in cc)

lower_scalar : (c : ℕ) → scalar c ≡ true → scalar (to_ascii_lowercase c) ≡ true
lower_scalar c s = elim (cases_lt c 128) [
  | inl l ↦ (let m = lowercase_ascii c l in low_scalar (to_ascii_lowercase c) (omega (arith, m)))
  | inr l ↦ ap scalar (high_same c l) ∙ s
]

and_parts : (a b : Bool) → (a && b) ≡ true → (a ≡ true) × (b ≡ true)
and_parts true true e = (refl, refl)
and_parts true false e = absurd (cc)
and_parts false b e = absurd (cc)

lower_scalars : (cs : List ℕ) → scalars cs ≡ true → scalars (map to_ascii_lowercase cs) ≡ true
lower_scalars [] e = refl
lower_scalars (c ∷ cs) e = let w = and_parts (scalar c) (scalars cs) e in ap (λ z. z && scalars (map to_ascii_lowercase cs)) (lower_scalar c w.0) ∙ lower_scalars cs w.1

chars_lower : (cs : List ℕ) → scalars cs ≡ true → chars (lower cs) ≡ map to_ascii_lowercase cs
chars_lower cs e = ap chars (all_lower cs) ∙ chars-encodes (map to_ascii_lowercase cs) (lower_scalars cs e)

-- no capital stands in lower case
pub not_capital : (c : ℕ) → is_capital (to_ascii_lowercase c) ≡ false
not_capital c = elim (cases_lt c 65) [
  | inl l ↦ ap is_capital ((lowercase_is c).1 l) ∙ no_capital c (inl l)
  | inr l ↦ (elim (cases_lt c 91) [
    | inl m ↦ ap is_capital ((lowercase_is c).0 (omega (arith, l), omega (arith, m))) ∙ no_capital (c + 32) (inr (omega (arith, l)))
    | inr m ↦ ap is_capital ((lowercase_is c).2 (omega (arith, m))) ∙ no_capital c (inr m)
  ])
]
  where
    by : (d : ℕ) (a b : Bool) → ltb 64 d ≡ a → ltb d 91 ≡ b → (d < 65) ⊎ (91 ≤ d) → (a && b) ≡ false
    by d true true p q (inl l) = absurd (let m = ltb-true 64 d p in omega (arith, l, m))
    by d true true p q (inr l) = absurd (let m = ltb-true d 91 q in omega (arith, l, m))
    by d true false p q h = refl
    by d false b p q h = refl

    no_capital : (d : ℕ) → (d < 65) ⊎ (91 ≤ d) → is_capital d ≡ false
    no_capital d h = by d (ltb 64 d) (ltb d 91) refl refl h

-- a test of all numbers below one
abbrev checked : (ℕ → Bool) → ℕ → Bool
checked p zero = true
checked p (suc n) = p n && checked p n

held : (p : ℕ → Bool) (n k : ℕ) → k < n → checked p n ≡ true → p k ≡ true
held p zero k l e = absurd (omega (arith, l))
held p (suc n) k l e = elim (cases_lt k n) [
  | inl m ↦ held p n k m (and_parts (p n) (checked p n) e).1
  | inr m ↦ (let i : k ≡ n = omega (arith, l, m) in ap p i ∙ (and_parts (p n) (checked p n) e).0)
]

abbrev letter_stays : ℕ → Bool
letter_stays k = not (ends_name (k + 97))

-- a character of names in lower case is one
name_lower : (c : ℕ) → has in_name c ≡ true → ends_name (to_ascii_lowercase c) ≡ false
name_lower c h = elim (cases_lt c 65) [
  | inl l ↦ ap ends_name ((lowercase_is c).1 l) ∙ not_true (ends_name c) h
  | inr l ↦ (elim (cases_lt c 91) [
    | inl m ↦ ap ends_name ((lowercase_is c).0 (omega (arith, l), omega (arith, m))) ∙ small (c - 65) (c + 32) (omega (arith, l, m)) (omega (arith, l))
    | inr m ↦ ap ends_name ((lowercase_is c).2 (omega (arith, m))) ∙ not_true (ends_name c) h
  ])
]
  where
    not_true : (b : Bool) → not b ≡ true → b ≡ false
    not_true true e = absurd (cc)
    not_true false e = refl

    small : (k d : ℕ) → k < 26 → k + 97 ≡ d → ends_name d ≡ false
    small k d l e = ap ends_name (sym e) ∙ not_true (ends_name (k + 97)) (held letter_stays 26 k l refl)

signs_lower : (cs : List ℕ) → All (λ c. has in_name c ≡ true) cs → All (λ c. (ends_name c || is_capital c) ≡ false) (map to_ascii_lowercase cs)
signs_lower [] h = All-nil (λ c. (ends_name c || is_capital c) ≡ false)
signs_lower (c ∷ cs) h = All-cons (λ d. (ends_name d || is_capital d) ≡ false) (to_ascii_lowercase c) (map to_ascii_lowercase cs) (ap (λ z. z || is_capital (to_ascii_lowercase c)) (name_lower c (All-head (λ d. has in_name d ≡ true) c cs h)) ∙ not_capital c)
    (signs_lower cs (All-tail (λ d. has in_name d ≡ true) c cs h))

pub name_is : (cs : List ℕ) → IsRun in_name cs → IsName (lower cs)
name_is cs h =
    let l = h.some in
    let m = length-map (encode_utf8_all cs) to_ascii_lowercase in
    let n = length-le-encodes cs in record {
      filled = omega (arith, l, m, n);
      signs = subst (All (λ c. (ends_name c || is_capital c) ≡ false)) (sym (chars_lower cs h.scalar)) (signs_lower cs h.signs);
    }

-- letters
in_range : (lo hi c : ℕ) → (leb lo c && leb c hi) ≡ true → (lo ≤ c) × (c ≤ hi)
in_range lo hi c e = let w = and_parts (leb lo c) (leb c hi) e in (leb-true lo c w.0, leb-true c hi w.1)

or_parts : (a b : Bool) → (a || b) ≡ true → (a ≡ true) ⊎ (b ≡ true)
or_parts true b e = inl refl
or_parts false b e = inr e

letter_small : (c : ℕ) → is_ascii_alphabetic c ≡ true → c < 128
letter_small c e = elim (or_parts (leb 65 c && leb c 90) (leb 97 c && leb c 122) e) [
  | inl a ↦ (let w = in_range 65 90 c a in omega (arith, w))
  | inr a ↦ (let w = in_range 97 122 c a in omega (arith, w))
]

abbrev lowers : ℕ → Bool
lowers c = not (is_ascii_alphabetic c) || is_ascii_alphabetic (to_ascii_lowercase c)

abbrev in_sort : ℕ → Bool
in_sort c = not (is_ascii_alphabetic (to_ascii_lowercase c)) || (ltb 96 (to_ascii_lowercase c) && ltb (to_ascii_lowercase c) 123)

implied : (a b : Bool) → (not a || b) ≡ true → a ≡ true → b ≡ true
implied true b e f = e
implied false b e f = absurd (cc)

letter_lower : (c : ℕ) → is_ascii_alphabetic c ≡ true → is_ascii_alphabetic (to_ascii_lowercase c) ≡ true
letter_lower c e = implied (is_ascii_alphabetic c) (is_ascii_alphabetic (to_ascii_lowercase c)) (held lowers 128 c (letter_small c e) refl) e

sort_letter : (c : ℕ) → is_ascii_alphabetic (to_ascii_lowercase c) ≡ true → (ltb 96 (to_ascii_lowercase c) && ltb (to_ascii_lowercase c) 123) ≡ true
sort_letter c e = elim (cases_lt c 128) [
  | inl l ↦ implied (is_ascii_alphabetic (to_ascii_lowercase c)) (ltb 96 (to_ascii_lowercase c) && ltb (to_ascii_lowercase c) 123) (held in_sort 128 c l refl) e
  | inr l ↦ absurd (let f = letter_small c (ap is_ascii_alphabetic (sym (high_same c l)) ∙ e) in omega (arith, f, l))
]

letters_sort : (bs : List ℕ) → All (λ b. (ltb 96 b && ltb b 123) ≡ true) (letters_of (map to_ascii_lowercase bs))
letters_sort [] = All-nil (λ b. (ltb 96 b && ltb b 123) ≡ true)
letters_sort (b ∷ bs) = by (is_ascii_alphabetic (to_ascii_lowercase b)) refl (letters_sort bs)
  where
    by : (a : Bool) → is_ascii_alphabetic (to_ascii_lowercase b) ≡ a → All (λ d. (ltb 96 d && ltb d 123) ≡ true) (letters_of (map to_ascii_lowercase bs)) → All (λ d. (ltb 96 d && ltb d 123) ≡ true) (cond a (to_ascii_lowercase b ∷ letters_of (map to_ascii_lowercase bs)) [])
    by true e h = All-cons (λ d. (ltb 96 d && ltb d 123) ≡ true) (to_ascii_lowercase b) (letters_of (map to_ascii_lowercase bs)) (sort_letter b e) h
    by false e h = All-nil (λ d. (ltb 96 d && ltb d 123) ≡ true)

some_letter : (b : ℕ) (bs : List ℕ) → is_ascii_alphabetic (to_ascii_lowercase b) ≡ true → 0 < length (letters_of (map to_ascii_lowercase (b ∷ bs)))
some_letter b bs e = subst (λ (a : Bool). 0 < length (cond a (to_ascii_lowercase b ∷ letters_of (map to_ascii_lowercase bs)) [])) (sym e) (omega arith)

pub sort_is : (cs : List ℕ) → HasLetter cs → IsSort (letters_of (lower cs))
sort_is cs h =
    let e : encode_utf8_all cs ≡ h.first ∷ encode_utf8_all h.rest = ap encode_utf8_all h.is ∙ ap (λ z. z ++ encode_utf8_all h.rest) (encode_ascii h.first (letter_small h.first h.is_letter)) in record {
      filled = subst (λ (z : List ℕ). 0 < length (letters_of (map to_ascii_lowercase z))) (sym e) (some_letter h.first (encode_utf8_all h.rest) (letter_lower h.first h.is_letter));
      letters = letters_sort (encode_utf8_all cs);
    }

-- predicates
all_front : (xs ys : List ℕ) → All (λ b. is_capital b ≡ false) (xs ++ ys) → All (λ b. is_capital b ≡ false) xs
all_front [] ys h = All-nil (λ b. is_capital b ≡ false)
all_front (x ∷ xs) ys h = All-cons (λ b. is_capital b ≡ false) x xs (All-head (λ b. is_capital b ≡ false) x (xs ++ ys) h) (all_front xs ys (All-tail (λ b. is_capital b ≡ false) x (xs ++ ys) h))

all_low : (bs : List ℕ) → All (λ b. is_capital b ≡ false) (map to_ascii_lowercase bs)
all_low [] = All-nil (λ b. is_capital b ≡ false)
all_low (b ∷ bs) = All-cons (λ d. is_capital d ≡ false) (to_ascii_lowercase b) (map to_ascii_lowercase bs) (not_capital b) (all_low bs)

normal_is : (text pred : List ℕ) → Normal text pred → All (λ b. is_capital b ≡ false) text → IsPred pred
normal_is _ _ (bare text n) all = record { lower = all; bare = n }
normal_is _ _ (with_rel front text n) all = normal_is front text n (all_front front (codes "_rel") all)

pub pred_is : (bs pred : List ℕ) → Normal (str_to_ascii_lowercase bs) pred → IsPred pred
pred_is bs pred n = normal_is (str_to_ascii_lowercase bs) pred n (all_low bs)
