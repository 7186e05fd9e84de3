use Rattle.std.proofs.Common.{◌≡◌, ℕ, ◌+◌, ◌%◌, ◌^◌, ◌<◌, ◌≤◌, List, length}
use mathlib.Core.Option.{some}
use lib.ListN.{get_elem?}
use Rattle.crossbeam_deque.specs.Handles.{worker_view}
use Rattle.chart_core.specs.declared.TaskId.{TaskId}
use Rattle.chart_workers.specs.declared.seat.Pass.{Pass}
use Rattle.chart_workers.specs.Balance.{weigh, IsAdditive}
use Rattle.chart_workers.specs.Whole.{all_of, in_first, Settles}
use Rattle.chart_workers.proofs.settling.settle.Given as goal

abbrev pub invariant-loop-at : goal.invariant-loop-at
invariant-loop-at l = record {
  known : (t : ℕ) (p : Pass) → get_elem? l.passes.items t ≡ some p → l.at ≤ t → (f : _) → IsAdditive f → f (worker_view p.own) ≡ all_of f t l.fn.passes.items;
  done : (t : ℕ) → t < l.at → Settles l.fn.passes.items t;
  count : length l.passes.items ≡ length l.fn.passes.items;
  pushed : l.settled.pushed ≡ in_first (λ v. length v.put) l.fn.passes.items l.at % 2 ^ 64;
  taken : l.settled.taken ≡ in_first (λ v. length v.taken) l.fn.passes.items l.at % 2 ^ 64;
  left : (tasks : List TaskId) × (l.settled.left ≡ length tasks % 2 ^ 64) × ((h : TaskId → ℕ) → in_first (λ v. weigh h v.put) l.fn.passes.items l.at ≡ in_first (λ v. weigh h v.taken) l.fn.passes.items l.at + weigh h tasks);
}
