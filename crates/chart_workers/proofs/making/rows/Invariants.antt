use Rattle.std.proofs.Common.{◌≡◌, ℕ, ◌+◌, ◌≤◌, ◌<◌, [], map, length}
use mathlib.Core.Option.{some}
use lib.ListN.{get_elem?}
use Rattle.crossbeam_deque.specs.Handles.{worker_deque, worker_flavor, worker_view}
use Rattle.chart_workers.specs.Making.{IsRow, IsNew}
use Rattle.chart_workers.proofs.making.rows.Given as goal

abbrev pub invariant-loop-seat : goal.invariant-loop-seat
invariant-loop-seat l = record {
  count : length l.deques.items ≡ length l.initial.deques.items;
  before : (t : ℕ) (d : _) → get_elem? l.deques.items t ≡ some d → t < l.seat → (worker_view d).parts + l.seat ≡ 65;
  after : (t : ℕ) (d : _) → get_elem? l.deques.items t ≡ some d → l.seat ≤ t → (worker_view d).parts + l.seat ≡ 64;
  fresh : (t : ℕ) (d : _) → get_elem? l.deques.items t ≡ some d → (worker_flavor d ≡ 0) × ((worker_view d).put ≡ []) × ((worker_view d).taken ≡ []);
  found : length l.found.items ≡ l.seat;
  rows : (j : ℕ) (r : _) → get_elem? l.found.items j ≡ some r → IsRow (map worker_deque l.initial.deques.items) j r.items;
  long : (j : ℕ) (r : _) → get_elem? l.found.items j ≡ some r → length r.items + 1 ≡ length l.initial.deques.items;
  new : (j : ℕ) (r : _) → get_elem? l.found.items j ≡ some r → (i : ℕ) (d : _) → get_elem? r.items i ≡ some d → IsNew d;
  places : map worker_deque l.deques.items ≡ map worker_deque l.initial.deques.items;
  room : length l.initial.deques.items ≤ l.found.cap;
}
