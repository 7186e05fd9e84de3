use Rattle.std.proofs.Common.{◌≡◌, ◌++◌, All, map}
use Rattle.std.specs.Prelude.{reverse}
use Rattle.chart_core.specs.Leaves.{leaf_seen, LeafBelongs}
use Rattle.chart_core.specs.Grammar.{grammar_of}
use Rattle.chart_core.specs.Kept.{IsOpened}
use Rattle.chart_core.specs.CoreView.{leaves_of, limits_of}
use Rattle.chart_core.proofs.chart.Core.start.Given as goal

abbrev pub invariant-loop-leaf : goal.invariant-loop-leaf
invariant-loop-leaf g l =
    let m = g.S.Shapes.meaning l.shapes in
    record {
      core : IsOpened (grammar_of g.S.Shapes g.S.Cover.Cover l.shapes) l.core;
      leaves : leaves_of m l.core ++ map (leaf_seen m) (reverse l.leaves.items) ≡ map (leaf_seen m) l.fn.leaves.items;
      belongs : All (LeafBelongs (g.S.Shapes.calculus l.shapes) (g.S.Shapes.belongs l.shapes)) l.leaves.items;
      limits : limits_of l.core ≡ limits_of l.initial.core;
      spare : l.core.spare ≡ l.initial.core.spare;
    }

abbrev pub decreases-loop-leaf : goal.decreases-loop-leaf
decreases-loop-leaf g l = l.leaves.len
