use Rattle.std.proofs.Common.{◌-◌, length}
use Rattle.chart_core.specs.Kept.{core_of, rows_in}
use Rattle.forest_unpack.proofs.Leading.{Follows}
use Rattle.forest_unpack.proofs.members.host_of.Given as goal

abbrev pub invariant-loop-next : goal.invariant-loop-next
invariant-loop-next g l = Follows (rows_in (core_of l.finished)) l.fn.row.0 l.host.0

abbrev pub decreases-loop-next : goal.decreases-loop-next
decreases-loop-next g l = length (rows_in (core_of l.finished)) - l.host.0
