-- From what each deque's own pass knows to what was pushed and taken.
use Rattle.std.proofs.Common.{◌≡◌, ◌≢◌, ℕ, ◌+◌, ◌<◌, ◌≤◌, List, [], ◌++◌, set, sym, ap, ◌∙◌, subst, ⊎_elim, arith}
use mathlib.Core.Option.{some}
use mathlib.Core.Logic.{dite}
use native.Mathlib.Decide.{ℕ_discrete}
use lib.ListN.{get_elem?}
use Rattle.atomic_table.proofs.Lists.{at_set}
use Rattle.crossbeam_deque.specs.Handles.{worker_view}
use Rattle.chart_core.specs.declared.TaskId.{TaskId}
use Rattle.chart_workers.specs.declared.hand.Hand.{Hand}
use Rattle.chart_workers.specs.declared.seat.Pass.{Pass}
use Rattle.chart_workers.specs.Balance.{weigh, IsAdditive, Same}
use Rattle.chart_workers.specs.Whole.{all_of, AreLinked, Settles}
use Rattle.chart_workers.proofs.Steps.{weigh-append}
use Rattle.chart_workers.proofs.Empties.{own_alone}

pub known_first : (places : List _) (passes orig : List Pass) → AreLinked places passes → ((j : ℕ) (p : Pass) → get_elem? passes j ≡ some p → p.doors.items ≡ []) → ((f : Hand → ℕ) → IsAdditive f → (t : ℕ) → all_of f t passes ≡ all_of f t orig)
    → (t : ℕ) (p : Pass) → get_elem? passes t ≡ some p → (f : Hand → ℕ) → IsAdditive f → f (worker_view p.own) ≡ all_of f t orig
known_first places passes orig linked empty all t p e f add =
    sym (own_alone f passes 0 t p (λ j x g. (((let n = (linked j x g).0 in omega arith)), empty j x g)) e) ∙ ap (λ (n : ℕ). all_of f n passes) (let z : 0 + t ≡ t = omega arith in z) ∙ all f add t

pub settles_by : (orig : List Pass) (t : ℕ) (v : Hand) (left : List TaskId) → ((f : Hand → ℕ) → IsAdditive f → f v ≡ all_of f t orig) → Same v.put (v.taken ++ left)
    → (h : TaskId → ℕ) → all_of (λ (u : Hand). weigh h u.put) t orig ≡ all_of (λ (u : Hand). weigh h u.taken) t orig + weigh h left
settles_by orig t v left known same h =
    let p = known (λ (u : Hand). weigh h u.put) (λ a b. weigh-append h a.put b.put) in
    let k = known (λ (u : Hand). weigh h u.taken) (λ a b. weigh-append h a.taken b.taken) in
    let s = same h in let w = weigh-append h v.taken left in omega arith

pub settles_one : (orig : List Pass) (t : ℕ) (v : Hand) (left : List TaskId) → ((f : Hand → ℕ) → IsAdditive f → f v ≡ all_of f t orig) → Same v.put (v.taken ++ left) → Settles orig t
settles_one orig t v left known same = (left, settles_by orig t v left known same)

pub known_later : (passes orig : List Pass) (at : ℕ) (q : Pass) → ((t : ℕ) (p : Pass) → get_elem? passes t ≡ some p → at ≤ t → (f : Hand → ℕ) → IsAdditive f → f (worker_view p.own) ≡ all_of f t orig)
    → (t : ℕ) (p : Pass) → get_elem? (set passes at q) t ≡ some p → at + 1 ≤ t → (f : Hand → ℕ) → IsAdditive f → f (worker_view p.own) ≡ all_of f t orig
known_later passes orig at q known t p e le f add = ⊎_elim (λ (y : (t ≡ at) × (q ≡ p)). absurd (let s = y.0 in omega arith)) (λ (y : (t ≢ at) × (get_elem? passes t ≡ some p)). known t p y.1 (omega arith) f add) (at_set passes at t q p e)

pub one_more : (P : ℕ → Type 0) (n : ℕ) → ((t : ℕ) → t < n → P t) → P n → (t : ℕ) → t < n + 1 → P t
one_more P n old new t lt = dite (ℕ_discrete t n) (λ e. subst P (sym e) new) (λ ne. old t (omega arith))
