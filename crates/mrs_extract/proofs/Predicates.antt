-- Predicates, and numbers of digits.
use Rattle.std.proofs.Common.{◌≡◌, ℕ, zero, suc, ◌+◌, ◌-◌, ◌*◌, ◌<◌, ◌≤◌, ◌∙◌, Bool, true, false, List, [], ◌∷◌, ◌++◌, length, length-append, take, drop, get_or, refl, ap, sym, subst, arith, Some, None}
use Rattle.std.specs.Prelude.{codes, nat_eq, ◌==◌, nat_lt, ◌^◌, All}
use Rattle.std.specs.List.{ends_with}
use Rattle.std.specs.Cmp.Lexicographic.{same_text, other_text}
use Rattle.std.proofs.lemmas.List.{take-append-drop}
use Rattle.std.proofs.lemmas.Bool.{ltb-true, ltb-false}
use Rattle.std.proofs.lemmas.List.Elements.{All-append, All-cons, All-nil}
use Rattle.mrs_extract.specs.Extraction.{Normal, bare, rel, IsNumber, is_digit, number_after}
use Rattle.mrs_extract.specs.Inner.Made.{small, with_digit}

rel_text : List ℕ
rel_text = codes "_rel"

-- a predicate that ends in `_rel` loses it
pub normal_step : (text new out : List ℕ) → ends_with nat_eq text (codes "_rel") ≡ true → new ≡ take (length text - 4) text → Normal new out → Normal text out
normal_step text new out e n h =
    let end : codes "_rel" ≡ drop (length text - 4) text = same_text (codes "_rel") (drop (length text - 4) text) (sym e) in
    let whole : new ++ codes "_rel" ≡ text = ap (λ l. l ++ codes "_rel") n ∙ ap (λ l. take (length text - 4) text ++ l) end ∙ take-append-drop (length text - 4) text in
    subst (λ t. Normal t out) whole (rel new out h)

drop_front : (front end : List ℕ) (k : ℕ) → k ≡ length front → drop k (front ++ end) ≡ end
drop_front [] end k e = rw e refl
drop_front (x ∷ xs) end k e = rw e (drop_front xs end (length xs) refl)

pub normal_end : (text : List ℕ) → ends_with nat_eq text (codes "_rel") ≡ false → Normal text text
normal_end text e = bare text (λ front q.
    (let n : length text ≡ length front + 4 = ap length q ∙ length-append front (codes "_rel") in
    let k : length text - 4 ≡ length front = omega (arith, n) in
    let d : drop (length text - 4) text ≡ codes "_rel" = ap (drop (length text - 4)) q ∙ drop_front front (codes "_rel") (length text - 4) k in
    other_text (codes "_rel") (drop (length text - 4) text) (sym e) (sym d)))

-- Numbers of digits

number_append : (a : ℕ) (xs ys : List ℕ) → number_after a (xs ++ ys) ≡ number_after (number_after a xs) ys
number_append a [] ys = refl
number_append a (x ∷ xs) ys = number_append (10 * a + (x - 48)) xs ys

at_least : (a : ℕ) (xs : List ℕ) → a ≤ number_after a xs
at_least a [] = omega arith
at_least a (x ∷ xs) = let r = at_least (10 * a + (x - 48)) xs in omega (arith, r)

split_at : (xs : List ℕ) (k d : ℕ) → k < length xs → xs ≡ take k xs ++ get_or xs k d ∷ drop (k + 1) xs
split_at [] k d lt = absurd (omega (arith, lt))
split_at (x ∷ xs) zero d lt = refl
split_at (x ∷ xs) (suc k) d lt =
    let q : suc (k + 1) ≡ suc k + 1 = omega arith in
    ap (λ l. x ∷ l) (split_at xs k d (omega (arith, lt))) ∙ ap (λ (j : ℕ). x ∷ take k xs ++ get_or (x ∷ xs) (suc k) d ∷ drop j (x ∷ xs)) q

take_one : (xs : List ℕ) (k d : ℕ) → k < length xs → take (k + 1) xs ≡ take k xs ++ get_or xs k d ∷ []
take_one [] k d lt = absurd (omega (arith, lt))
take_one (x ∷ xs) zero d lt = refl
take_one (x ∷ xs) (suc k) d lt =
    let q : suc k + 1 ≡ suc (k + 1) = omega arith in
    ap (λ (j : ℕ). take j (x ∷ xs)) q ∙ ap (λ l. x ∷ l) (take_one xs k d (omega (arith, lt)))

-- what one digit more gives
pub record Longer (number byte more : ℕ) : Type 0 where
  pub digit : is_digit byte ≡ true
  pub is : more ≡ 10 * number + (byte - 48)
  pub small : more < 2 ^ 32

pub longer : (number byte more : ℕ) → Some more ≡ with_digit number byte → Longer number byte more
longer number byte more e = by_digit (is_digit byte) refl
  where
    by_small : (b : Bool) → nat_lt (10 * number + (byte - 48)) (2 ^ 32) ≡ b → is_digit byte ≡ true → Longer number byte more
    by_small true s d =
        let w : with_digit number byte ≡ Some (10 * number + (byte - 48)) = rw (d, s) refl in
        let z : Some more ≡ Some (10 * number + (byte - 48)) = e ∙ w in
        let m : more ≡ 10 * number + (byte - 48) = cc in
        let l = ltb-true (10 * number + (byte - 48)) (2 ^ 32) s in
        record { digit = d; is = m; small = omega (arith, m, l) }
    by_small false s d =
        let w : with_digit number byte ≡ None = rw (d, s) refl in
        let z : Some more ≡ None = e ∙ w in
        absurd (cc)

    by_digit : (b : Bool) → is_digit byte ≡ b → Longer number byte more
    by_digit true d = by_small (nat_lt (10 * number + (byte - 48)) (2 ^ 32)) refl d
    by_digit false d =
        let w : with_digit number byte ≡ None = rw d refl in
        let z : Some more ≡ None = e ∙ w in
        absurd (cc)

large : (number byte : ℕ) → None ≡ with_digit number byte → is_digit byte ≡ true → 2 ^ 32 ≤ 10 * number + (byte - 48)
large number byte e d = by_small (nat_lt (10 * number + (byte - 48)) (2 ^ 32)) refl
  where
    by_small : (b : Bool) → nat_lt (10 * number + (byte - 48)) (2 ^ 32) ≡ b → 2 ^ 32 ≤ 10 * number + (byte - 48)
    by_small true s =
        let w : with_digit number byte ≡ Some (10 * number + (byte - 48)) = rw (d, s) refl in
        let z : None ≡ Some (10 * number + (byte - 48)) = e ∙ w in
        absurd (cc)
    by_small false s = ltb-false (10 * number + (byte - 48)) (2 ^ 32) s

pub no_number : (text : List ℕ) (k d number : ℕ) → k < length text → number ≡ number_after 0 (take k text) → None ≡ with_digit number (get_or text k d) → (n : ℕ) → IsNumber text n → ⊥
no_number text k d number lt e none n h =
    let big = large number (get_or text k d) none (h.digits k d lt) in
    let whole : n ≡ number_after (10 * number + (get_or text k d - 48)) (drop (k + 1) text)
    = h.is ∙ ap (number_after 0) (split_at text k d lt) ∙ number_append 0 (take k text) (get_or text k d ∷ drop (k + 1) text)
    ∙ ap (λ (a : ℕ). number_after (10 * a + (get_or text k d - 48)) (drop (k + 1) text)) (sym e) in
    let most = at_least (10 * number + (get_or text k d - 48)) (drop (k + 1) text) in
    let small = h.small in
    absurd (omega (arith, big, whole, most, small))

all_end : (P : ℕ → Type 0) (xs : List ℕ) (x : ℕ) → All P xs → P x → All P (xs ++ x ∷ [])
all_end P xs x a p = All-append P xs (x ∷ []) a (All-cons P x [] p (All-nil P))

pub digits_more : (text : List ℕ) (k d : ℕ) → k < length text → All (λ b. is_digit b ≡ true) (take k text) → is_digit (get_or text k d) ≡ true → All (λ b. is_digit b ≡ true) (take (k + 1) text)
digits_more text k d lt a h = subst (All (λ b. is_digit b ≡ true)) (sym (take_one text k d lt)) (all_end (λ b. is_digit b ≡ true) (take k text) (get_or text k d) a h)

pub number_more : (text : List ℕ) (k d number more : ℕ) → k < length text → number ≡ number_after 0 (take k text) → more ≡ 10 * number + (get_or text k d - 48) → more ≡ number_after 0 (take (k + 1) text)
number_more text k d number more lt e m =
    m ∙ ap (λ (a : ℕ). 10 * a + (get_or text k d - 48)) e ∙ sym (ap (number_after 0) (take_one text k d lt) ∙ number_append 0 (take k text) (get_or text k d ∷ []))

take_whole : (xs : List ℕ) (k : ℕ) → length xs ≤ k → take k xs ≡ xs
take_whole [] zero le = refl
take_whole [] (suc k) le = refl
take_whole (x ∷ xs) zero le = absurd (omega (arith, le))
take_whole (x ∷ xs) (suc k) le = ap (λ l. x ∷ l) (take_whole xs k (omega (arith, le)))

pub is_number : (text : List ℕ) (k number : ℕ) → length text ≤ k → 0 < length text → number < 2 ^ 32 → All (λ b. is_digit b ≡ true) (take k text) → number ≡ number_after 0 (take k text) → IsNumber text number
is_number text k number le filled small a e = record {
  filled = filled;
  digits = subst (All (λ b. is_digit b ≡ true)) (take_whole text k le) a;
  is = e ∙ ap (number_after 0) (take_whole text k le);
  small = small;
}

pub filled_of : (text : List ℕ) → false ≡ (length text == 0) → 0 < length text
filled_of [] e = absurd (let z : false ≡ true = e in cc)
filled_of (x ∷ xs) e = omega arith
