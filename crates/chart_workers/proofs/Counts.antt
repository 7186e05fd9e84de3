-- Counts modulo 2^64.
use Rattle.std.proofs.Common.{◌≡◌, ◌∙◌, ℕ, suc, ◌+◌, ◌%◌, ◌^◌, List, [], ◌∷◌, ◌++◌, length, length-append, ap, sym, arith}
use Rattle.std.proofs.Math.Nat.{add-mod-mod, mod-add-mod}
use Rattle.chart_core.specs.declared.TaskId.{TaskId}
use Rattle.chart_workers.specs.declared.hand.Hand.{Hand}
use Rattle.chart_workers.specs.declared.seat.Pass.{Pass}
use Rattle.chart_workers.specs.Balance.{weigh}
use Rattle.chart_workers.specs.Whole.{all_of, in_first}
use Rattle.chart_workers.proofs.Steps.{weigh-append}

pub both_counted : (count more a b : ℕ) → count ≡ a % 2 ^ 64 → more ≡ b % 2 ^ 64 → (count + more) % 2 ^ 64 ≡ (a + b) % 2 ^ 64
both_counted count more a b e g = (λ i. (e i + g i) % 2 ^ 64) ∙ add-mod-mod (a % 2 ^ 64) b (2 ^ 64) ∙ mod-add-mod a (2 ^ 64) b

module _ {A : Type 0} where
  -- one more
  pub one_counted : (count : ℕ) (l l' : List A) (x : A) → count ≡ length l % 2 ^ 64 → l' ≡ l ++ x ∷ [] → (count + 1) % 2 ^ 64 ≡ length l' % 2 ^ 64
  one_counted count l l' x e is =
      ap (λ n. (n + 1) % 2 ^ 64) e ∙ mod-add-mod (length l) (2 ^ 64) 1 ∙ ap (λ n. n % 2 ^ 64) (sym (ap (λ (k : List A). length k) is ∙ length-append l (x ∷ [])))

  -- those of another list more
  pub all_counted : (count more : ℕ) (l m : List A) → count ≡ length l % 2 ^ 64 → more ≡ length m % 2 ^ 64 → (count + more) % 2 ^ 64 ≡ length (l ++ m) % 2 ^ 64
  all_counted count more l m e g = both_counted count more (length l) (length m) e g ∙ ap (λ n. n % 2 ^ 64) (sym (length-append l m))

  pub none_counted : (count : ℕ) (l m : List A) → count ≡ length l % 2 ^ 64 → length m ≡ 0 → count ≡ length (l ++ m) % 2 ^ 64
  none_counted count l m e none = e ∙ ap (λ n. n % 2 ^ 64) (let a = length-append l m in let z : length l ≡ length (l ++ m) = omega arith in z)

  pub more_counted : (count more : ℕ) (l m : List A) → count ≡ length l % 2 ^ 64 → length m ≡ more → (count + more) % 2 ^ 64 ≡ length (l ++ m) % 2 ^ 64
  more_counted count more l m e is = (λ i. (e i + sym is i) % 2 ^ 64) ∙ mod-add-mod (length l) (2 ^ 64) (length m) ∙ ap (λ n. n % 2 ^ 64) (sym (length-append l m))

pub next_in : (f : Hand → ℕ) (passes : List Pass) (n : ℕ) → in_first f passes (n + 1) ≡ in_first f passes n + all_of f n passes
next_in f passes n = ap (λ k. in_first f passes k) (let z : n + 1 ≡ suc n = omega arith in z)

-- one deque more
pub deque_counted : (f : Hand → ℕ) (passes : List Pass) (at count more own : ℕ) → count ≡ in_first f passes at % 2 ^ 64 → more ≡ own % 2 ^ 64 → own ≡ all_of f at passes → (count + more) % 2 ^ 64 ≡ in_first f passes (at + 1) % 2 ^ 64
deque_counted f passes at count more own e g is =
    both_counted count more (in_first f passes at) own e g ∙ ap (λ n. n % 2 ^ 64) (ap (λ n. in_first f passes at + n) is ∙ sym (next_in f passes at))

-- what is left of the first deques, and of one more
pub left_on : (passes : List Pass) (at : ℕ) (tasks more : List TaskId)
    → ((h : TaskId → ℕ) → in_first (λ (v : Hand). weigh h v.put) passes at ≡ in_first (λ (v : Hand). weigh h v.taken) passes at + weigh h tasks)
    → ((h : TaskId → ℕ) → all_of (λ (v : Hand). weigh h v.put) at passes ≡ all_of (λ (v : Hand). weigh h v.taken) at passes + weigh h more)
    → (h : TaskId → ℕ) → in_first (λ (v : Hand). weigh h v.put) passes (at + 1) ≡ in_first (λ (v : Hand). weigh h v.taken) passes (at + 1) + weigh h (tasks ++ more)
left_on passes at tasks more first here h =
    let a = first h in let b = here h in
    let p = next_in (λ (v : Hand). weigh h v.put) passes at in let t = next_in (λ (v : Hand). weigh h v.taken) passes at in
    let w = weigh-append h tasks more in omega arith
