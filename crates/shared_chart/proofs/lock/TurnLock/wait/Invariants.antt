use Rattle.std.proofs.Common.{◌≡◌}
use Rattle.shared_chart.proofs.lock.TurnLock.wait.Given as goal

abbrev pub invariant-loop : goal.invariant-loop
invariant-loop g l = record {
  table : l.chair.table_id ≡ l.initial.chair.table_id;
  id : l.chair.id ≡ l.initial.chair.id;
  me : l.chair.me ≡ l.initial.chair.me;
}
