-- Bytes of one class, and what ends them.
use Rattle.std.proofs.Common.{◌≡◌, ℕ, Bool, true, false, List, [], ◌∷◌, ◌++◌, refl, ap}
use Rattle.std.specs.List.{All}
use Rattle.std.proofs.lemmas.List.Elements.{All-head, All-tail}

abbrev first_of : List ℕ → ℕ
first_of [] = 0
first_of (x ∷ xs) = x

abbrev rest_of : List ℕ → List ℕ
rest_of [] = []
rest_of (x ∷ xs) = xs

pub heads : (x y : ℕ) (r s : List ℕ) → x ∷ r ≡ y ∷ s → x ≡ y
heads x y r s e = ap first_of e

pub rests : (x y : ℕ) (r s : List ℕ) → x ∷ r ≡ y ∷ s → r ≡ s
rests x y r s e = ap rest_of e

pub run_splits : (p : ℕ → Bool) (w v : List ℕ) (x y : ℕ) (r s : List ℕ) → All (λ b. p b ≡ false) w → All (λ b. p b ≡ false) v → p x ≡ true → p y ≡ true →
    w ++ x ∷ r ≡ v ++ y ∷ s → (w ≡ v) × (x ≡ y) × (r ≡ s)
run_splits p [] [] x y r s a b hx hy e = (refl, cc, cc)
run_splits p [] (d ∷ v) x y r s a b hx hy e = let low : p d ≡ false = All-head (λ b. p b ≡ false) d v b in let same : x ≡ d = cc in cc
run_splits p (c ∷ w) [] x y r s a b hx hy e = let low : p c ≡ false = All-head (λ b. p b ≡ false) c w a in let same : c ≡ y = cc in cc
run_splits p (c ∷ w) (d ∷ v) x y r s a b hx hy e =
    let rest : w ++ x ∷ r ≡ v ++ y ∷ s = cc in
    let same : c ≡ d = cc in
    let more = run_splits p w v x y r s (All-tail (λ b. p b ≡ false) c w a) (All-tail (λ b. p b ≡ false) d v b) hx hy rest in
    (cc (more.0), more.1, more.2)

-- a front of the class is a front of what stands before the end
pub run_within : (p : ℕ → Bool) (w m : List ℕ) (x : ℕ) (more u : List ℕ) → All (λ b. p b ≡ false) w → p x ≡ true → w ++ more ≡ m ++ x ∷ u →
    (rest : List ℕ) × (m ≡ w ++ rest) × (more ≡ rest ++ x ∷ u)
run_within p [] m x more u a hx e = (m, refl, e)
run_within p (c ∷ w) [] x more u a hx e = let low : p c ≡ false = All-head (λ b. p b ≡ false) c w a in let same : c ≡ x = cc in cc
run_within p (c ∷ w) (d ∷ m) x more u a hx e =
    let rest : w ++ more ≡ m ++ x ∷ u = cc in
    let same : c ≡ d = cc in
    let h = run_within p w m x more u (All-tail (λ b. p b ≡ false) c w a) hx rest in
    (h.0, cc (h.1), h.2)
