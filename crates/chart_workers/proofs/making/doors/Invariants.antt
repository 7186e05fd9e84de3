use Rattle.std.proofs.Common.{◌≡◌, ℕ, ◌≤◌, map, length}
use mathlib.Core.Option.{some}
use lib.ListN.{get_elem?}
use Rattle.crossbeam_deque.specs.Handles.{worker_deque}
use Rattle.chart_workers.specs.Pools.{others}
use Rattle.chart_workers.specs.Making.{IsNew}
use Rattle.chart_workers.specs.Whole.{ArePlaced}
use Rattle.chart_workers.proofs.Makes.{AreLost}
use Rattle.chart_workers.proofs.making.doors.Given as goal

abbrev pub invariant-loop-at : goal.invariant-loop-at
invariant-loop-at l = record {
  lost : AreLost l.seat l.at l.initial.deques.items l.deques.items;
  places : map worker_deque l.deques.items ≡ map worker_deque l.initial.deques.items;
  new : (i : ℕ) (d : _) → get_elem? l.found.items i ≡ some d → IsNew d;
  count : length l.deques.items ≡ length l.initial.deques.items;
  numbers : map (λ d. d.deque) l.found.items ≡ others l.seat l.at;
  placed : ArePlaced (map worker_deque l.initial.deques.items) l.found.items;
  room : length l.initial.deques.items ≤ l.found.cap;
}
