-- The length of a history is the sum of what its callers added.
use Rattle.std.proofs.Common.{◌≡◌, ◌≢◌, ◌∙◌, ℕ, zero, suc, ◌+◌, ◌<◌, ◌≤◌, if◌then◌else◌, List, [], ◌∷◌, length, refl, ap, eq-eqb, ne_eqb, arith}
use mathlib.Core.Option.{some}
use mathlib.Core.Logic.{dite}
use native.Mathlib.Decide.{ℕ_discrete}
use lib.ListN.{get_elem?}
use Rattle.shared_chart.specs.Turns.{total, calls_by}

-- f of k and of the n - 1 numbers after it, added up
abbrev pub sum_from : (ℕ → ℕ) → ℕ → ℕ → ℕ
sum_from f k zero = 0
sum_from f k (suc n) = f k + sum_from f (suc k) n

sum_same : (f h : ℕ → ℕ) (k n : ℕ) → ((i : ℕ) → k ≤ i → f i ≡ h i) → sum_from f k n ≡ sum_from h k n
sum_same f h k zero same = refl
sum_same f h k (suc n) same =
    let here = same k (omega arith) in let rest = sum_same f h (suc k) n (λ i le. same i (omega arith)) in omega arith

module _ {E : Type 0} (caller : E → ℕ) where
  abbrev pub many : List E → ℕ → ℕ
  many l i = length (calls_by caller i l)

  its_own : (i : ℕ) (e : E) (es : List E) → i ≡ caller e → many (e ∷ es) i ≡ suc (many es i)
  its_own i e es is = λ j. length (if eq-eqb i (caller e) is j then e ∷ calls_by caller i es else calls_by caller i es)

  of_others : (i : ℕ) (e : E) (es : List E) → i ≢ caller e → many (e ∷ es) i ≡ many es i
  of_others i e es ne = λ j. length (if ne_eqb i (caller e) ne j then e ∷ calls_by caller i es else calls_by caller i es)

  one_more : (e : E) (es : List E) (k n : ℕ) → k ≤ caller e → caller e < k + n → sum_from (many (e ∷ es)) k n ≡ suc (sum_from (many es) k n)
  one_more e es k zero le lt = absurd (omega arith)
  one_more e es k (suc n) le lt = dite (ℕ_discrete k (caller e))
      (λ is.
      let here = its_own k e es is in
      let rest = sum_same (many (e ∷ es)) (many es) (suc k) n (λ i above. of_others i e es (λ same. absurd (omega arith))) in omega arith)
      (λ ne.
      let here = of_others k e es ne in
      let rest = one_more e es (suc k) n (omega arith) (omega arith) in omega arith)

  none_added : (k n : ℕ) → sum_from (many []) k n ≡ 0
  none_added k zero = refl
  none_added k (suc n) = let r = none_added (suc k) n in omega arith

  pub all_added : (l : List E) (n : ℕ) → ((m : ℕ) (e : E) → get_elem? l m ≡ some e → caller e < n) → sum_from (many l) 0 n ≡ length l
  all_added [] n few = none_added 0 n
  all_added (e ∷ es) n few =
      let lt = few 0 e refl in let r = all_added es n (λ m x at. few (suc m) x at) in let one = one_more e es 0 n (omega arith) (omega arith) in omega arith

  -- where the element at i of a list has the entries of i, its elements have together all entries
  pub summed : {A : Type 0} (own : A → List E) (owners : List A) (k : ℕ) (l : List E) → ((i : ℕ) (a : A) → get_elem? owners i ≡ some a → calls_by caller (k + i) l ≡ own a) → total (λ a. length (own a)) owners ≡ sum_from (many l) k (length owners)
  summed own [] k l each = refl
  summed own (a ∷ owners) k l each =
      let here : length (calls_by caller k l) ≡ length (own a) = ap (λ (i : ℕ). length (calls_by caller i l)) (let z : k ≡ k + 0 = omega arith in z) ∙ ap (λ es. length es) (each 0 a refl) in
      let rest = summed own owners (suc k) l (λ i x at. ap (λ (j : ℕ). calls_by caller j l) (let z : suc k + i ≡ k + suc i = omega arith in z) ∙ each (suc i) x at) in omega arith
