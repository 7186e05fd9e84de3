use Rattle.std.proofs.Common.{map}
use Rattle.chart_core.specs.Kept.{core_of, rows_in}
use Rattle.forest_unpack.specs.Plans.{row_of}
use Rattle.forest_unpack.specs.Inner.Memos.{places_left}
use Rattle.forest_unpack.proofs.Grouping.{Walks}
use Rattle.forest_unpack.proofs.groups.group_of.Given as goal

abbrev pub invariant-loop-next : goal.invariant-loop-next
invariant-loop-next g l = Walks (rows_in (core_of l.finished)) l.host l.members.before.items l.next (map row_of l.group.items)

abbrev pub decreases-loop-next : goal.decreases-loop-next
decreases-loop-next g l = places_left l.next
