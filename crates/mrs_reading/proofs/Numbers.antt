-- Numbers in decimal digits.
use Rattle.std.proofs.Common.{◌≡◌, ℕ, zero, suc, ◌+◌, ◌-◌, ◌*◌, ◌^◌, ◌<◌, ◌≤◌, ◌∙◌, inl, inr, Bool, true, false, not, cond, eqb, Bor, append_assoc, length-append, Option, Some, None, MatchOption, List, [], ◌∷◌, ◌++◌, refl, ap, sym, subst, length, take, drop, get_or, arith}
use Rattle.std.specs.Char.{is_ascii_digit}
use Rattle.std.proofs.lemmas.List.{take-append-drop, take_more, take_all, take_at, drop_at}
use Rattle.std.specs.List.{position_or_len, before_first, after_first}
use Rattle.std.proofs.lemmas.Bool.{cases_lt}
use Rattle.std.proofs.lemmas.Option.{same_Some}
use Rattle.std.proofs.lemmas.List.Sums.{split_at_first, passes_at_first}
use borrow.Author.Tests.{eqb-true}
use Rattle.mrs_model.specs.declared.Extent.{Extent}
use Rattle.mrs_reading.specs.Meaning.{number_after, AreDigits, IsNumber, Spans}

pub number_append : (n : ℕ) (ds es : List ℕ) → number_after n (ds ++ es) ≡ number_after (number_after n ds) es
number_append n [] es = refl
number_append n (d ∷ ds) es = number_append (10 * n + (d - 48)) ds es

number_least : (n : ℕ) (ds : List ℕ) → n ≤ number_after n ds
number_least n [] = omega arith
number_least n (d ∷ ds) = let h = number_least (10 * n + (d - 48)) ds in omega (arith, h)

pub digits_append : (ds es : List ℕ) → AreDigits ds → AreDigits es → AreDigits (ds ++ es)
digits_append [] es h k = k
digits_append (d ∷ ds) es h k = (h.0, digits_append ds es h.1 k)

digits_at : (ds : List ℕ) (i d : ℕ) → i < length ds → AreDigits ds → is_ascii_digit (get_or ds i d) ≡ true
digits_at [] i d l h = absurd (omega arith)
digits_at (e ∷ ds) zero d l h = h.0
digits_at (e ∷ ds) (suc i) d l h = digits_at ds i d (omega arith) h.1

next_take : (bs : List ℕ) (i d : ℕ) → i < length bs → take (i + 1) bs ≡ take i bs ++ get_or bs i d ∷ []
next_take bs i d l = take_more bs i d l

-- one digit more
pub number_more : (bs : List ℕ) (i d n m : ℕ) → i < length bs → n ≡ number_after 0 (take i bs) → m ≡ 10 * n + (get_or bs i d - 48) → m ≡ number_after 0 (take (i + 1) bs)
number_more bs i d n m l e f =
    f ∙ ap (λ z. 10 * z + (get_or bs i d - 48)) e ∙ sym (number_append 0 (take i bs) (get_or bs i d ∷ [])) ∙ ap (number_after 0) (sym (next_take bs i d l))

pub digits_more : (bs : List ℕ) (i d : ℕ) → i < length bs → is_ascii_digit (get_or bs i d) ≡ true → AreDigits (take i bs) → AreDigits (take (i + 1) bs)
digits_more bs i d l h k = subst AreDigits (sym (next_take bs i d l)) (digits_append (take i bs) (get_or bs i d ∷ []) k (h, tt))

-- a byte that is no digit
pub no_digit : (bs text : List ℕ) (i d n : ℕ) → bs ≡ text → i < length bs → is_ascii_digit (get_or bs i d) ≡ false → IsNumber text n → ⊥
no_digit bs text i d n e l f h = let g = digits_at bs i d l (subst AreDigits (sym e) h.digits) in absurd (cc)

not_less : (a b : ℕ) → (a < b → ⊥) → b ≤ a
not_less a b h = elim (cases_lt a b) [ inl l ↦ absurd (h l) | inr l ↦ l ]

-- a front of the digits is too great already
pub too_great : (bs text : List ℕ) (i d n m : ℕ) → bs ≡ text → i < length bs → n ≡ number_after 0 (take i bs) → 2 ^ 32 ≤ 10 * n + (get_or bs i d - 48) → IsNumber text m → ⊥
too_great bs text i d n m s l e g h =
    let f = number_more bs i d n (10 * n + (get_or bs i d - 48)) l e refl in
    let t : number_after 0 bs ≡ number_after (number_after 0 (take (i + 1) bs)) (drop (i + 1) bs) = ap (number_after 0) (sym (take-append-drop (i + 1) bs)) ∙ number_append 0 (take (i + 1) bs) (drop (i + 1) bs) in
    let k = number_least (number_after 0 (take (i + 1) bs)) (drop (i + 1) bs) in
    let p : m ≡ number_after 0 bs = h.is ∙ ap (number_after 0) (sym s) in
    let q = h.small in
    omega (arith, f, g, t, k, p, q)

pub product_great : (n b : ℕ) → (n * 10 < 2 ^ 32 → ⊥) → 2 ^ 32 ≤ 10 * n + b
product_great n b h = let l = not_less (n * 10) (2 ^ 32) h in omega (arith, l)

pub sum_great : (n p b c : ℕ) → p ≡ n * 10 → c ≡ b → (p + c < 2 ^ 32 → ⊥) → 2 ^ 32 ≤ 10 * n + b
sum_great n p b c e f h = let l = not_less (p + c) (2 ^ 32) h in omega (arith, l, e, f)

pub whole_number : (bs text : List ℕ) (i n : ℕ) → bs ≡ text → 0 < length text → length bs ≤ i → n ≡ number_after 0 (take i bs) → AreDigits (take i bs) → n < 2 ^ 32 → IsNumber text n
whole_number bs text i n s f l e d k =
    let t : take i bs ≡ text = take_all i bs l ∙ s in
    record { some = f; digits = subst AreDigits t d; is = e ∙ ap (number_after 0) t; small = k }

abbrev pub colon : ℕ → Bool
colon x = eqb x 58

digit_no_colon : (c : ℕ) → is_ascii_digit c ≡ true → colon c ≡ false
digit_no_colon c h = by (eqb c 58) refl
  where
    by : (b : Bool) → eqb c 58 ≡ b → colon c ≡ false
    by true e = let q : c ≡ 58 = eqb-true c 58 e in let r : is_ascii_digit 58 ≡ true = ap is_ascii_digit (sym q) ∙ h in absurd (cc)
    by false e = e

colon_after : (a b : List ℕ) → AreDigits a → position_or_len colon (a ++ 58 ∷ b) ≡ length a
colon_after [] b h = refl
colon_after (c ∷ a) b h = let e = digit_no_colon c h.0 in let i = colon_after a b h.1 in ap (λ z. cond (not z) (1 + position_or_len colon (a ++ 58 ∷ b)) 0) e ∙ ap (λ n. 1 + n) i ∙ omega arith

pub record Halves (text from to : List ℕ) : Type 0 where
  pub within : position_or_len colon text < length text
  pub from_is : from ≡ before_first colon text
  pub to_is : to ≡ after_first colon text

colon_there : (text : List ℕ) (e : Extent) → (s : Spans text e) → position_or_len colon text ≡ length s.a
colon_there text e s = ap (position_or_len colon) s.is ∙ colon_after s.a s.b s.from.digits

pub no_colon : (text : List ℕ) → position_or_len colon text ≡ length text → (e : Extent) → Spans text e → ⊥
no_colon text h e s = let p = colon_there text e s in let l = ap length s.is in let m = length-append s.a (58 ∷ s.b) in omega (arith, h, p, l, m)

first_half : (text from to : List ℕ) (e : Extent) → Halves text from to → (s : Spans text e) → from ≡ s.a
first_half text from to e h s = h.from_is ∙ ap (λ n. take n text) (colon_there text e s) ∙ ap (take (length s.a)) s.is ∙ take_at s.a (58 ∷ s.b) (length s.a) refl

second_half : (text from to : List ℕ) (e : Extent) → Halves text from to → (s : Spans text e) → to ≡ s.b
second_half text from to e h s =
    h.to_is ∙ ap (λ n. drop (n + 1) text) (colon_there text e s) ∙ ap (drop (length s.a + 1)) (s.is ∙ sym (append_assoc s.a (58 ∷ []) s.b)) ∙ drop_at (s.a ++ 58 ∷ []) s.b (length s.a + 1) (length-append s.a (58 ∷ []))

pub no_first : (text from to : List ℕ) → Halves text from to → ((n : ℕ) → IsNumber from n → ⊥) → (e : Extent) → Spans text e → ⊥
no_first text from to h k e s = k e.from (subst (λ (z : List ℕ). IsNumber z e.from) (sym (first_half text from to e h s)) s.from)

pub no_second : (text from to : List ℕ) → Halves text from to → ((n : ℕ) → IsNumber to n → ⊥) → (e : Extent) → Spans text e → ⊥
no_second text from to h k e s = k e.to (subst (λ (z : List ℕ). IsNumber z e.to) (sym (second_half text from to e h s)) s.to)

pub a_span : (text from to : List ℕ) (a b : ℕ) → Halves text from to → IsNumber from a → IsNumber to b → Spans text (record { from = a; to = b })
a_span text from to a b h x y =
    let c : get_or text (position_or_len colon text) 0 ≡ 58 = eqb-true (get_or text (position_or_len colon text) 0) 58 (passes_at_first colon text 0 h.within) in
    let s = split_at_first colon text 0 h.within in
    record { a = from; b = to; is = s ∙ ap (λ z. before_first colon text ++ z ∷ after_first colon text) c ∙ (let f = h.from_is in let t = h.to_is in cc); from = x; to = y }

abbrev pub Cut : List ℕ → Bor (List ℕ) × Bor (List ℕ) → Type 0
Cut text x = (position_or_len colon text < length text) × (x.0.now ≡ before_first colon text) × (x.1.now ≡ after_first colon text)

pub cut_none : (text : List ℕ) (r : Option (Bor (List ℕ) × Bor (List ℕ))) → MatchOption r (position_or_len colon text ≡ length text) (Cut text) → r ≡ None → position_or_len colon text ≡ length text
cut_none text None h e = h
cut_none text (Some x) h e = absurd (cc)

pub cut_some : (text : List ℕ) (r : Option (Bor (List ℕ) × Bor (List ℕ))) (x : Bor (List ℕ) × Bor (List ℕ)) → MatchOption r (position_or_len colon text ≡ length text) (Cut text) → r ≡ Some x → Halves text x.0.now x.1.now
cut_some text None x h e = absurd (cc)
cut_some text (Some y) x h e = let c : Cut text x = subst (Cut text) (same_Some y x e) h in record { within = c.0; from_is = c.1; to_is = c.2 }
