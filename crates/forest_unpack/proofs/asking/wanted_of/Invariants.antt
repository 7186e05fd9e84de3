use Rattle.std.proofs.Common.{map}
use Rattle.chart_core.specs.Kept.{core_of, rows_in}
use Rattle.forest_unpack.specs.Keeping.{asked_of}
use Rattle.forest_unpack.specs.Asking.{AreAsked}
use Rattle.forest_unpack.proofs.asking.wanted_of.Given as goal

abbrev pub invariant-loop-i : goal.invariant-loop-i
invariant-loop-i g l = AreAsked (g.F.Fulls.wholes l.fulls) (rows_in (core_of l.finished)) l.i (map asked_of l.wanted.items)
