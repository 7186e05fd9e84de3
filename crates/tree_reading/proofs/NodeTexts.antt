-- The nodes of a leaf, and numbers.
use Rattle.std.proofs.Common.{◌≡◌, ℕ, true, false, not, List, [], ◌∷◌, ◌++◌, Option, Some, None, refl, sym, ap, ◌∙◌, append_assoc, ◌<◌, ◌+◌, ◌%◌, ◌^◌, arith, rules, decimal, tests}
use Rattle.std.specs.List.{All}
use Rattle.std.proofs.lemmas.List.Elements.{All-cons, All-nil, All-push}
use Rattle.std.proofs.lemmas.Fmt.{decimal_by_steps, decimal_injective}
use Rattle.tree_reading.specs.Grammars.{AreNodes}
use Rattle.tree_reading.specs.Inner.Stops.{ending, is_digit}
use Rattle.tree_reading.proofs.Runs.{heads, rests, run_splits}

abbrev pub AreDigits : List ℕ → Type 0
AreDigits ds = All (λ b. not (is_digit b) ≡ false) ds

digit_is : (n : ℕ) → n < 10 → not (is_digit (48 + n)) ≡ false
digit_is n h = search (tests, rules)

pub all_digits : (n : ℕ) → n < 2 ^ 64 → AreDigits (decimal n)
all_digits = decimal_by_steps (λ n ds. AreDigits ds)
    (λ n h. All-cons (λ b. not (is_digit b) ≡ false) (48 + n) [] (digit_is n h) (All-nil (λ b. not (is_digit b) ≡ false)))
    (λ n ds h ih. All-push (λ b. not (is_digit b) ≡ false) ds (48 + n % 10) ih (digit_is (n % 10) (omega arith)))

pub decimal_splits : (n m x y : ℕ) (r s : List ℕ) → n < 2 ^ 32 → m < 2 ^ 32 → not (is_digit x) ≡ true → not (is_digit y) ≡ true →
    decimal n ++ x ∷ r ≡ decimal m ++ y ∷ s → (n ≡ m) × (x ≡ y) × (r ≡ s)
decimal_splits n m x y r s hn hm hx hy e =
    let h = run_splits (λ b. not (is_digit b)) (decimal n) (decimal m) x y r s (all_digits n (omega arith)) (all_digits m (omega arith)) hx hy e in
    (decimal_injective n m (omega arith) (omega arith) h.0, h.1, h.2)

pub ending_some : (n : ℕ × ℕ) (r : List ℕ) → ending (Some n) ++ r ≡ 32 ∷ (decimal n.0 ++ 32 ∷ (decimal n.1 ++ 41 ∷ r))
ending_some n r = simp append_assoc

pair_is : (n m : ℕ × ℕ) → n.0 ≡ m.0 → n.1 ≡ m.1 → n ≡ m
pair_is n m p q = ap (λ k. (k, n.1)) p ∙ ap (λ k. (m.0, k)) q

pub decode_ending : (ns ms : Option (ℕ × ℕ)) (r s : List ℕ) → AreNodes ns → AreNodes ms → ending ns ++ r ≡ ending ms ++ s → (ns ≡ ms) × (r ≡ s)
decode_ending None None r s a b e = (refl, rests _ _ _ _ e)
decode_ending None (Some m) r s a b e = absurd (omega (arith, heads _ _ _ _ (e ∙ ending_some m s)))
decode_ending (Some n) None r s a b e = absurd (omega (arith, heads _ _ _ _ (sym e ∙ ending_some n r)))
decode_ending (Some n) (Some m) r s a b e =
    let h : 32 ∷ (decimal n.0 ++ 32 ∷ (decimal n.1 ++ 41 ∷ r)) ≡ 32 ∷ (decimal m.0 ++ 32 ∷ (decimal m.1 ++ 41 ∷ s)) = sym (ending_some n r) ∙ e ∙ ending_some m s in
    let k : decimal n.0 ++ 32 ∷ (decimal n.1 ++ 41 ∷ r) ≡ decimal m.0 ++ 32 ∷ (decimal m.1 ++ 41 ∷ s) = rests _ _ _ _ h in
    let f = decimal_splits n.0 m.0 32 32 _ _ a.0 b.0 refl refl k in
    let t = decimal_splits n.1 m.1 41 41 r s a.1 b.1 refl refl f.2 in
    (ap Some (pair_is n m f.0 t.0), t.2)
