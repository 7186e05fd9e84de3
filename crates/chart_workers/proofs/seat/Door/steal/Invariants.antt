use Rattle.std.proofs.Common.{◌≡◌}
use Rattle.crossbeam_deque.specs.Handles.{view, stealer_deque}
use Rattle.chart_workers.proofs.seat.Door.steal.Given as goal

abbrev pub invariant-loop : goal.invariant-loop
invariant-loop g l = record {
  same : stealer_deque l.self.thief ≡ stealer_deque l.initial.self.thief;
  number : l.self.deque ≡ l.initial.self.deque;
  view : view l.self.pass ≡ view l.initial.self.pass;
}
