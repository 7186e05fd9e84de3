-- What was seen of lists, with the next of them.
use Rattle.std.specs.Prelude.{ℕ, ◌≡◌, ◌⊎◌, ◌<◌, ◌≤◌, ◌+◌, All, List, length, map}
use Rattle.std.proofs.Common.{take, get_or, sym, subst, arith, inl, inr}
use Rattle.std.proofs.lemmas.Bool.{cases_lt}
use Rattle.chart_core.proofs.Grows.{all_snoc}
use Rattle.morph_analysis.proofs.Lists.{map_take_next, all_taken}

pub seen_next : {A B : Type 0} (f : A → B) (P : B → Type 0) (xs : List A) (i : ℕ) (x : A) → i < length xs → x ≡ get_or xs i x → P (f x) → All P (map f (take i xs)) → All P (map f (take (i + 1) xs))
seen_next f P xs i x h e p all = subst (All P) (sym (map_take_next f xs i x h e)) (all_snoc P (map f (take i xs)) (f x) all p)

pub seen_all : {A B : Type 0} (f : A → B) (P : B → Type 0) (xs : List A) (i : ℕ) → length xs ≤ i → All P (map f (take i xs)) → All P (map f xs)
seen_all f P xs i h p = subst (λ ys. All P (map f ys)) (all_taken xs i h) p

-- what holds of all holds of one
pub seen_at : {A : Type 0} (P : A → Type 0) (xs : List A) (i : ℕ) (x : A) → i < length xs → x ≡ get_or xs i x → All P xs → P x
seen_at P xs i x h e all = subst P (sym e) (all i x h)

-- numbers, one after another
pub each_next : (P : ℕ → Type 0) (k next : ℕ) → ((n : ℕ) → n < k → P n) → P k → next ≡ k + 1 → (n : ℕ) → n < next → P n
each_next P k next before here e n lt = by_case (cases_lt n k)
  where
    by_case : (n < k) ⊎ (k ≤ n) → P n
    by_case (inl low) = before n low
    by_case (inr high) = subst P (omega (arith, lt, high, e)) here
