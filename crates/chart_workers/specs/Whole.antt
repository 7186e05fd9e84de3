-- The passes of one pool.
use Rattle.std.specs.Prelude.{◌≡◌, ℕ, zero, suc, ◌+◌, ◌==◌, if◌then◌else◌, List, length}
use mathlib.Core.Option.{some}
use lib.ListN.{get_elem?}
use Rattle.atomic_blocks.specs.Lent.{RowsId}
use Rattle.std.specs.declared.alloc.Global.{Global}
use Rattle.crossbeam_deque.specs.Handles.{view, worker_view, worker_deque, stealer_deque}
use Rattle.chart_core.specs.declared.TaskId.{TaskId}
use Rattle.chart_workers.specs.declared.hand.Hand.{Hand}
use Rattle.chart_workers.specs.declared.seat.Door.{Door}
use Rattle.chart_workers.specs.declared.seat.Pass.{Pass}
use Rattle.chart_workers.specs.Balance.{weigh}

abbrev pub pass_place : Pass → RowsId × Global
pass_place p = worker_deque p.own

abbrev pub pass_doors : Pass → List Door
pass_doors p = p.doors.items

-- what f is of all that is known of the deque number t
abbrev pub at_door : (Hand → ℕ) → ℕ → Door → ℕ
at_door f t d = if t == d.deque then f (view d.pass) else 0

abbrev pub at_pass : (Hand → ℕ) → ℕ → Pass → ℕ
at_pass f t p = (if t == p.number then f (worker_view p.own) else 0) + weigh (at_door f t) p.doors.items

abbrev pub all_of : (Hand → ℕ) → ℕ → List Pass → ℕ
all_of f t passes = weigh (at_pass f t) passes

-- what f is of all that is known of the first n deques, and of all deques
abbrev pub in_first : (Hand → ℕ) → List Pass → ℕ → ℕ
in_first f passes zero = 0
in_first f passes (suc n) = in_first f passes n + all_of f n passes

abbrev pub in_all : (Hand → ℕ) → List Pass → ℕ
in_all f passes = in_first f passes (length passes)

-- each door leads to the deque of its number
abbrev pub ArePlaced : List (RowsId × Global) → List Door → Type 0
ArePlaced places doors = (i : ℕ) (d : Door) → get_elem? doors i ≡ some d → get_elem? places d.deque ≡ some (stealer_deque d.thief)

abbrev pub AreLinked : List (RowsId × Global) → List Pass → Type 0
AreLinked places passes = (j : ℕ) (p : Pass) → get_elem? passes j ≡ some p → (p.number ≡ j) × ArePlaced places p.doors.items

-- with some list of tasks that are left, what was taken of the deque number t is what was pushed on it, each as often
abbrev pub Settles : List Pass → ℕ → Type 0
Settles passes t = (left : List TaskId) × ((h : TaskId → ℕ) → all_of (λ (v : Hand). weigh h v.put) t passes ≡ all_of (λ (v : Hand). weigh h v.taken) t passes + weigh h left)

-- with these tasks that are left, what was taken of all deques is what was pushed, each as often
abbrev pub Leaves : List Pass → List TaskId → Type 0
Leaves passes left = (h : TaskId → ℕ) → in_all (λ (v : Hand). weigh h v.put) passes ≡ in_all (λ (v : Hand). weigh h v.taken) passes + weigh h left
