use Rattle.chart_core.specs.Kept.{core_of, rows_in}
use Rattle.forest_unpack.specs.Inner.Members.{AreMembers}
use Rattle.forest_unpack.proofs.members.members_of.Given as goal

abbrev pub invariant-loop-i : goal.invariant-loop-i
invariant-loop-i g l = AreMembers (rows_in (core_of l.finished)) l.i l.members.last.items l.members.before.items
