use Rattle.chart_core.specs.CoreView.{chart_of}
use Rattle.chart_core.specs.Kept.{core_of}
use Rattle.packed_forests.specs.Inner.Told.{AreTold}
use Rattle.packed_forests.proofs.class_rows.Given as goal

abbrev pub invariant-loop-number : goal.invariant-loop-number
invariant-loop-number g l = AreTold (g.S.Shapes.calculus l.shapes) (chart_of (g.S.Shapes.meaning l.shapes) (core_of l.finished)) l.number l.classes.items
