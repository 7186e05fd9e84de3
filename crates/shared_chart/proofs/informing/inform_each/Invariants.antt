use Rattle.std.proofs.Common.{◌≤◌, ◌+◌, ◌-◌}
use Rattle.shared_chart.specs.Infos.{AreInfos}
use Rattle.shared_chart.proofs.informing.inform_each.Given as goal

abbrev pub invariant-loop-number : goal.invariant-loop-number
invariant-loop-number g l = record {
  infos : AreInfos g.S.Cover.Cover.extent l.core l.fn.first.0 l.number l.infos.items;
  low : l.fn.first.0 ≤ l.number;
  high : l.number ≤ l.fn.first.0 + (l.fn.end.0 - l.fn.first.0);
}
