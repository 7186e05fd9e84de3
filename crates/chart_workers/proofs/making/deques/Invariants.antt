use Rattle.std.proofs.Common.{◌≡◌, ◌≤◌, [], All, length}
use Rattle.crossbeam_deque.specs.Handles.{worker_flavor, worker_view}
use Rattle.chart_workers.specs.Balance.{hand}
use Rattle.chart_workers.proofs.making.deques.Given as goal

abbrev pub invariant-loop-number : goal.invariant-loop-number
invariant-loop-number l = record {
  count : length l.found.items ≡ l._number;
  each : All (λ d. (worker_flavor d ≡ 0) × (worker_view d ≡ hand 64 [] [])) l.found.items;
  room : l.count ≤ l.found.cap;
}
