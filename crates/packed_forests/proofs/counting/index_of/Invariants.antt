use Rattle.std.proofs.Common.{take}
use Rattle.chart_core.specs.Kept.{core_of, rows_in}
use Rattle.chart_core.specs.View.{into_of}
use Rattle.packed_forests.specs.Inner.Found.{lists_in, IsFull, AreFound}
use Rattle.packed_forests.proofs.counting.index_of.Given as goal

abbrev pub invariant-loop-number : goal.invariant-loop-number
invariant-loop-number g l = record { full : IsFull l.index; found : AreFound g.S.Cover.Cover.cell_of (into_of (rows_in (core_of l.finished))) (take l.number (rows_in (core_of l.finished))) (lists_in l.index) }
