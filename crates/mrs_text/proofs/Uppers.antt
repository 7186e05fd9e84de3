-- Names in upper case.
use Rattle.std.proofs.Common.{◌≡◌, ℕ, zero, suc, ◌+◌, ◌-◌, ◌∙◌, ◌<◌, ◌≤◌, inl, inr, Bool, true, false, not, ◌&&◌, ◌||◌, List, [], ◌∷◌, map, refl, ap, sym, subst, append-nil, length, get_or, ltb, lt-ltb, arith}
use Rattle.std.specs.List.{All}
use Rattle.std.specs.Str.{chars, encode_utf8_all, str_to_ascii_lowercase, IsUtf8}
use Rattle.std.specs.Char.{encode_utf8, to_ascii_lowercase, to_ascii_uppercase}
use Rattle.std.proofs.lemmas.Bool.{cases_lt}
use Rattle.std.proofs.lemmas.List.{map-append, length-map}
use Rattle.std.proofs.lemmas.List.Elements.{All-nil, All-cons, All-head, All-tail}
use Rattle.std.proofs.lemmas.Str.{chars-encodes, encodes-chars, scalars-chars, inside_one, encode_ascii}
use Rattle.std.proofs.lemmas.Str.Ascii.{lowercase_ascii, lowercase_is, uppercase_ascii, uppercase_is, lowercase-uppercase}
use lib.Utf8.{scalar, scalars, low_scalar}
use Rattle.mrs_model.specs.Texts.{ends_name, is_capital, IsName}
use Rattle.mrs_spelling.specs.Forms.{Class, in_name, has}
use Rattle.mrs_text.specs.Written.{upper}

-- text of the class, not empty
pub record IsRunOf (x : Class) (s : List ℕ) : Type 0 where
  pub utf8 : IsUtf8 s
  pub some : 0 < length s
  pub signs : All (λ c. has x c ≡ true) (chars s)

pub all_weaker : {A : Type 0} (P Q : A → Type 0) (xs : List A) → ((x : A) → P x → Q x) → All P xs → All Q xs
all_weaker P Q [] f h = All-nil Q
all_weaker P Q (x ∷ xs) f h = All-cons Q x xs (f x (All-head P x xs h)) (all_weaker P Q xs f (All-tail P x xs h))

pub all_mapped : {A B : Type 0} (P : A → Type 0) (Q : B → Type 0) (g : A → B) (xs : List A) → ((x : A) → P x → Q (g x)) → All P xs → All Q (map g xs)
all_mapped P Q g [] f h = All-nil Q
all_mapped P Q g (x ∷ xs) f h = All-cons Q (g x) (map g xs) (f x (All-head P x xs h)) (all_mapped P Q g xs f (All-tail P x xs h))

-- a map that changes ASCII alone
module _ (f : ℕ → ℕ) (high : (c : ℕ) → 128 ≤ c → f c ≡ c) (small : (c : ℕ) → c < 128 → f c < 128) where
  bytes_same : (bs : List ℕ) → ((k : ℕ) → k < length bs → 128 ≤ get_or bs k 0) → map f bs ≡ bs
  bytes_same [] h = refl
  bytes_same (b ∷ bs) h = let e = high b (h 0 (omega arith)) in let g = bytes_same bs (λ k l. h (suc k) (omega (arith, l))) in cc

  high_bytes : (c : ℕ) → 128 ≤ c → (k : ℕ) → k < length (encode_utf8 c) → 128 ≤ get_or (encode_utf8 c) k 0
  high_bytes c l k m = elim (cases_lt (get_or (encode_utf8 c) k 0) 128) [
    | inl n ↦ absurd (let e = inside_one c [] (encode_utf8 c) k (sym (append-nil (encode_utf8 c))) m n in omega (arith, e, n, l))
    | inr n ↦ n
  ]

  one_changed : (c : ℕ) → map f (encode_utf8 c) ≡ encode_utf8 (f c)
  one_changed c = elim (cases_lt c 128) [
    | inl l ↦ ap (map f) (encode_ascii c l) ∙ sym (encode_ascii (f c) (small c l))
    | inr l ↦ bytes_same (encode_utf8 c) (high_bytes c l) ∙ ap encode_utf8 (sym (high c l))
  ]

  pub all_changed : (cs : List ℕ) → map f (encode_utf8_all cs) ≡ encode_utf8_all (map f cs)
  all_changed [] = refl
  all_changed (c ∷ cs) = map-append f (encode_utf8 c) (encode_utf8_all cs) ∙ (let a = one_changed c in let b = all_changed cs in cc)

  one_scalar : (c : ℕ) → scalar c ≡ true → scalar (f c) ≡ true
  one_scalar c s = elim (cases_lt c 128) [
    | inl l ↦ (let m = small c l in low_scalar (f c) (omega (arith, m)))
    | inr l ↦ ap scalar (high c l) ∙ s
  ]

  and_parts : (a b : Bool) → (a && b) ≡ true → (a ≡ true) × (b ≡ true)
  and_parts true true e = (refl, refl)
  and_parts true false e = absurd (cc)
  and_parts false b e = absurd (cc)

  all_scalars : (cs : List ℕ) → scalars cs ≡ true → scalars (map f cs) ≡ true
  all_scalars [] e = refl
  all_scalars (c ∷ cs) e = let w = and_parts (scalar c) (scalars cs) e in ap (λ z. z && scalars (map f cs)) (one_scalar c w.0) ∙ all_scalars cs w.1

  pub chars_changed : (s : List ℕ) → IsUtf8 s → chars (map f s) ≡ map f (chars s)
  chars_changed s u = ap chars (ap (map f) (sym (encodes-chars s u)) ∙ all_changed (chars s)) ∙ chars-encodes (map f (chars s)) (all_scalars (chars s) (scalars-chars s u))

  pub changed_utf8 : (s : List ℕ) → IsUtf8 s → IsUtf8 (map f s)
  changed_utf8 s u = (map f (chars s), (all_scalars (chars s) (scalars-chars s u), sym (all_changed (chars s)) ∙ ap (map f) (encodes-chars s u)))

high_upper : (c : ℕ) → 128 ≤ c → to_ascii_uppercase c ≡ c
high_upper c l = (uppercase_is c).2 (omega (arith, l))

high_lower : (c : ℕ) → 128 ≤ c → to_ascii_lowercase c ≡ c
high_lower c l = (lowercase_is c).2 (omega (arith, l))

-- a test of all numbers below one
abbrev checked : (ℕ → Bool) → ℕ → Bool
checked p zero = true
checked p (suc n) = p n && checked p n

both : (a b : Bool) → (a && b) ≡ true → (a ≡ true) × (b ≡ true)
both true true e = (refl, refl)
both true false e = absurd (cc)
both false b e = absurd (cc)

pub held : (p : ℕ → Bool) (n k : ℕ) → k < n → checked p n ≡ true → p k ≡ true
held p zero k l e = absurd (omega (arith, l))
held p (suc n) k l e = elim (cases_lt k n) [
  | inl m ↦ held p n k m (both (p n) (checked p n) e).1
  | inr m ↦ (let i : k ≡ n = omega (arith, l, m) in ap p i ∙ (both (p n) (checked p n) e).0)
]

abbrev capital_stands : ℕ → Bool
capital_stands k = not (ends_name (k + 65))

name_upper : (c : ℕ) → has in_name c ≡ true → has in_name (to_ascii_uppercase c) ≡ true
name_upper c h = elim (cases_lt c 97) [
  | inl l ↦ ap (has in_name) ((uppercase_is c).1 l) ∙ h
  | inr l ↦ (elim (cases_lt c 123) [
    | inl m ↦ (let e = (uppercase_is c).0 (omega (arith, l), omega (arith, m)) in let f : to_ascii_uppercase c ≡ (c - 97) + 65 = omega (arith, e, l) in ap (has in_name) f ∙ held capital_stands 26 (c - 97) (omega (arith, l, m)) refl)
    | inr m ↦ ap (has in_name) ((uppercase_is c).2 (omega (arith, m))) ∙ h
  ])
]

neither : (a b : Bool) → (a || b) ≡ false → (a ≡ false) × (b ≡ false)
neither true b e = absurd (cc)
neither false b e = (refl, e)

stands : (c : ℕ) → (ends_name c || is_capital c) ≡ false → has in_name c ≡ true
stands c h = ap not (neither (ends_name c) (is_capital c) h).0

pub same_lower : (c : ℕ) → is_capital c ≡ false → to_ascii_lowercase c ≡ c
same_lower c h = elim (cases_lt c 65) [
  | inl l ↦ (lowercase_is c).1 l
  | inr l ↦ (elim (cases_lt c 91) [
    | inl m ↦ absurd (let a : ltb 64 c ≡ true = lt-ltb 64 c (omega (arith, l)) in let b : ltb c 91 ≡ true = lt-ltb c 91 m in let k : is_capital c ≡ true = ap (λ z. z && ltb c 91) a ∙ b in cc)
    | inr m ↦ (lowercase_is c).2 (omega (arith, m))
  ])
]

pub same_lowers : (cs : List ℕ) → All (λ c. is_capital c ≡ false) cs → map to_ascii_lowercase cs ≡ cs
same_lowers [] h = refl
same_lowers (c ∷ cs) h = let e = same_lower c (All-head (λ c. is_capital c ≡ false) c cs h) in let f = same_lowers cs (All-tail (λ c. is_capital c ≡ false) c cs h) in cc

pub lower_name : (s : List ℕ) → IsName s → IsUtf8 s → str_to_ascii_lowercase s ≡ s
lower_name s n u =
    ap (map to_ascii_lowercase) (sym (encodes-chars s u)) ∙ all_changed to_ascii_lowercase high_lower lowercase_ascii (chars s)
    ∙ ap encode_utf8_all (same_lowers (chars s) (all_weaker (λ c. (ends_name c || is_capital c) ≡ false) (λ c. is_capital c ≡ false) (chars s) (λ c h. (neither (ends_name c) (is_capital c) h).1) n.signs)) ∙ encodes-chars s u

lower_uppers : (s : List ℕ) → map to_ascii_lowercase (map to_ascii_uppercase s) ≡ map to_ascii_lowercase s
lower_uppers [] = refl
lower_uppers (c ∷ s) = let e = lowercase-uppercase c in let f = lower_uppers s in cc

-- reading a name gives what was written in upper case
pub lower_upper : (s : List ℕ) → IsName s → IsUtf8 s → str_to_ascii_lowercase (upper s) ≡ s
lower_upper s n u = lower_uppers s ∙ lower_name s n u

pub name_run : (s : List ℕ) → IsName s → IsUtf8 s → IsRunOf in_name s
name_run s n u = record { utf8 = u; some = n.filled; signs = all_weaker (λ c. (ends_name c || is_capital c) ≡ false) (λ c. has in_name c ≡ true) (chars s) stands n.signs }

pub upper_run : (s : List ℕ) → IsName s → IsUtf8 s → IsRunOf in_name (upper s)
upper_run s n u = record {
  utf8 = changed_utf8 to_ascii_uppercase high_upper uppercase_ascii s u;
  some = let l = length-map s to_ascii_uppercase in let m = n.filled in omega (arith, l, m);
  signs = subst (All (λ c. has in_name c ≡ true)) (sym (chars_changed to_ascii_uppercase high_upper uppercase_ascii s u))
      (all_mapped (λ c. has in_name c ≡ true) (λ c. has in_name c ≡ true) to_ascii_uppercase (chars s) name_upper (name_run s n u).signs);
}
