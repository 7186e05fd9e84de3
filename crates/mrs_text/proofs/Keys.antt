-- The letters and digits of the variables: each variable has its own.
use Rattle.std.proofs.Common.{◌≡◌, ℕ, zero, suc, ◌+◌, ◌∙◌, ◌<◌, ◌^◌, Bool, true, false, not, ◌&&◌, ◌||◌, ◌==◌, eqb-true, if◌then◌else◌, List, [], ◌∷◌, ◌++◌, map, refl, ap, sym, subst, length, Option, Some, None, decimal, ltb, arith}
use Rattle.std.specs.List.{All, slice_get}
use Rattle.std.specs.Str.{str_to_ascii_lowercase}
use Rattle.std.specs.Char.{is_ascii_digit, to_ascii_lowercase}
use Rattle.std.specs.Str.Parse.{digits_value}
use Rattle.std.proofs.lemmas.Option.{same_Some}
use Rattle.std.proofs.lemmas.List.{append_cancel_left, map-append}
use Rattle.std.proofs.lemmas.List.Elements.{All-head, All-tail}
use Rattle.std.proofs.lemmas.Fmt.{decimal_is_IsNumeral, IsAscii-decimal}
use Rattle.std.proofs.lemmas.Str.{chars-IsAscii}
use Rattle.mrs_model.specs.Meanings.{Variable}
use Rattle.mrs_model.specs.Texts.{IsSort, is_capital}
use Rattle.mrs_spelling.specs.Forms.{digit, letter, has}
use Rattle.mrs_reading.specs.Meaning.{letters_of}
use Rattle.mrs_text.specs.Written.{place_of, option_suc}
use Rattle.mrs_text.proofs.Uppers.{held, same_lowers, all_weaker}
use Rattle.mrs_text.proofs.Variables.{sort_run, digit_run, digit_no_letter, sort_ascii, sort_low, digit_low}
use Rattle.mrs_text.proofs.Ranks.{key}

-- letters end where the digits begin
stops : (ds : List ℕ) → All (λ c. has digit c ≡ true) ds → letters_of ds ≡ []
stops [] h = refl
stops (d ∷ ds) h = ap (λ (b : Bool). if b then d ∷ letters_of ds else []) (digit_no_letter d (All-head (λ c. has digit c ≡ true) d ds h))

letters_front : (s ds : List ℕ) → All (λ c. has letter c ≡ true) s → All (λ c. has digit c ≡ true) ds → letters_of (s ++ ds) ≡ s
letters_front [] ds h k = stops ds k
letters_front (c ∷ s) ds h k = ap (λ (b : Bool). if b then c ∷ letters_of (s ++ ds) else []) (All-head (λ c. has letter c ≡ true) c s h) ∙ ap (λ z. c ∷ z) (letters_front s ds (All-tail (λ c. has letter c ≡ true) c s h) k)

sort_letters : (s : List ℕ) → IsSort s → All (λ c. has letter c ≡ true) s
sort_letters s h = subst (All (λ c. has letter c ≡ true)) (chars-IsAscii s (sort_ascii s h)) (sort_run s h).signs

number_digits : (n : ℕ) → n < 2 ^ 64 → All (λ c. has digit c ≡ true) (decimal n)
number_digits n l = subst (All (λ c. has digit c ≡ true)) (chars-IsAscii (decimal n) (IsAscii-decimal n l)) (digit_run n l).signs

pub key_sort : (s : List ℕ) (n : ℕ) → IsSort s → n < 2 ^ 64 → letters_of (s ++ decimal n) ≡ s
key_sort s n h l = letters_front s (decimal n) (sort_letters s h) (number_digits n l)

pub key_one : (s t : List ℕ) (m n : ℕ) → IsSort s → IsSort t → m < 2 ^ 64 → n < 2 ^ 64 → s ++ decimal m ≡ t ++ decimal n → m ≡ n
key_one s t m n h k l p e =
    let f : s ≡ t = sym (key_sort s m h l) ∙ ap letters_of e ∙ key_sort t n k p in
    let g : decimal m ≡ decimal n = append_cancel_left s (decimal m) (decimal n) (e ∙ ap (λ z. z ++ decimal n) (sym f)) in
    sym (decimal_is_IsNumeral m l).1 ∙ ap (digits_value 10) g ∙ (decimal_is_IsNumeral n p).1

-- they are in lower case
was_not : (a b : Bool) → (not a || not b) ≡ true → a ≡ true → b ≡ false
was_not true true e f = absurd (cc)
was_not true false e f = refl
was_not false b e f = absurd (cc)

abbrev sort_small : ℕ → Bool
sort_small b = not (ltb 96 b && ltb b 123) || not (is_capital b)

abbrev digit_small : ℕ → Bool
digit_small b = not (is_ascii_digit b) || not (is_capital b)

low_sort : (s : List ℕ) → IsSort s → map to_ascii_lowercase s ≡ s
low_sort s h = same_lowers s (all_weaker (λ b. (ltb 96 b && ltb b 123) ≡ true) (λ b. is_capital b ≡ false) s one h.letters)
  where
    one : (b : ℕ) → (ltb 96 b && ltb b 123) ≡ true → is_capital b ≡ false
    one b e = was_not (ltb 96 b && ltb b 123) (is_capital b) (held sort_small 128 b (sort_low b e) refl) e

low_digits : (n : ℕ) → n < 2 ^ 64 → map to_ascii_lowercase (decimal n) ≡ decimal n
low_digits n l = same_lowers (decimal n) (all_weaker (λ c. has digit c ≡ true) (λ b. is_capital b ≡ false) (decimal n) one (number_digits n l))
  where
    one : (b : ℕ) → has digit b ≡ true → is_capital b ≡ false
    one b e = was_not (is_ascii_digit b) (is_capital b) (held digit_small 128 b (digit_low b e) refl) e

pub low_key : (s : List ℕ) (n : ℕ) → IsSort s → n < 2 ^ 64 → str_to_ascii_lowercase (s ++ decimal n) ≡ s ++ decimal n
low_key s n h l = map-append to_ascii_lowercase s (decimal n) ∙ (let a = low_sort s h in let b = low_digits n l in cc)

-- the list of them
module _ (vars : List Variable) (order : List ℕ) where
  abbrev pub keys_at : ℕ → List Variable → List (List ℕ)
  keys_at i [] = []
  keys_at i (x ∷ xs) = key vars order i ∷ keys_at (suc i) xs

  pub keys_get : (i : ℕ) (xs : List Variable) (j : ℕ) → j < length xs → slice_get (keys_at i xs) j ≡ Some (key vars order (i + j))
  keys_get i [] j l = absurd (omega (arith, l))
  keys_get i (x ∷ xs) zero l = ap (λ z. Some (key vars order z)) (omega arith)
  keys_get i (x ∷ xs) (suc j) l = keys_get (suc i) xs j (omega (arith, l)) ∙ ap (λ z. Some (key vars order z)) (omega arith)

  pub keys_back : (i : ℕ) (xs : List Variable) (j : ℕ) (k : List ℕ) → slice_get (keys_at i xs) j ≡ Some k → (j < length xs) × (key vars order (i + j) ≡ k)
  keys_back i [] j k e = absurd (cc)
  keys_back i (x ∷ xs) zero k e = (omega arith, ap (λ z. key vars order z) (omega arith) ∙ same_Some (key vars order i) k e)
  keys_back i (x ∷ xs) (suc j) k e = let w = keys_back (suc i) xs j k e in let l = w.0 in (omega (arith, l), ap (λ z. key vars order z) (omega arith) ∙ w.1)

  pub keys_length : (i : ℕ) (xs : List Variable) → length (keys_at i xs) ≡ length xs
  keys_length i [] = refl
  keys_length i (x ∷ xs) = ap suc (keys_length (suc i) xs)

by_test : (v w : ℕ) (o : Option ℕ) (b : Bool) → (v == w) ≡ b → (if v == w then Some 0 else option_suc o) ≡ (if b then Some 0 else option_suc o)
by_test v w o b e = ap (λ (z : Bool). if z then Some 0 else option_suc o) e

-- at one place stands one variable
pub place_one : (v w : ℕ) (ws : List ℕ) (i : ℕ) → place_of v ws ≡ Some i → place_of w ws ≡ Some i → v ≡ w
place_one v w [] i e f = absurd (cc)
place_one v w (x ∷ ws) i e f = by (v == x) (w == x) refl refl (place_of v ws) (place_of w ws) refl refl (place_one v w ws)
  where
    by : (a b : Bool) → (v == x) ≡ a → (w == x) ≡ b → (o p : Option ℕ) → place_of v ws ≡ o → place_of w ws ≡ p → ((j : ℕ) → place_of v ws ≡ Some j → place_of w ws ≡ Some j → v ≡ w) → v ≡ w
    by true true c d o p g h k = eqb-true v x c ∙ sym (eqb-true w x d)
    by true false c d o None g h k = absurd (let q = sym f ∙ by_test w x (place_of w ws) false d ∙ ap option_suc h in cc)
    by true false c d o (Some n) g h k = absurd (let q = sym f ∙ by_test w x (place_of w ws) false d ∙ ap option_suc h in let r = sym e ∙ by_test v x (place_of v ws) true c in let a : i ≡ n + 1 = same_Some i (n + 1) q in let b : i ≡ 0 = same_Some i 0 r in omega (arith, a, b))
    by false true c d None p g h k = absurd (let q = sym e ∙ by_test v x (place_of v ws) false c ∙ ap option_suc g in cc)
    by false true c d (Some n) p g h k = absurd (let q = sym e ∙ by_test v x (place_of v ws) false c ∙ ap option_suc g in let r = sym f ∙ by_test w x (place_of w ws) true d in let a : i ≡ n + 1 = same_Some i (n + 1) q in let b : i ≡ 0 = same_Some i 0 r in omega (arith, a, b))
    by false false c d None p g h k = absurd (let q = sym e ∙ by_test v x (place_of v ws) false c ∙ ap option_suc g in cc)
    by false false c d (Some n) None g h k = absurd (let q = sym f ∙ by_test w x (place_of w ws) false d ∙ ap option_suc h in cc)
    by false false c d (Some n) (Some m) g h k =
        let q = sym e ∙ by_test v x (place_of v ws) false c ∙ ap option_suc g in
        let r = sym f ∙ by_test w x (place_of w ws) false d ∙ ap option_suc h in
        let a : i ≡ n + 1 = same_Some i (n + 1) q in let b : i ≡ m + 1 = same_Some i (m + 1) r in
        let s : m ≡ n = omega (arith, a, b) in k n g (h ∙ ap Some s)
