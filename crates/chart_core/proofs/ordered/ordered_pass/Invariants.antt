use Rattle.std.proofs.Common.{◌≡◌}
use Rattle.chart_model.proofs.Order.{rank}
use Rattle.chart_core.specs.Grammar.{grammar_of}
use Rattle.chart_core.specs.CoreView.{leaves_of, limits_of}
use Rattle.chart_core.specs.Passing.{IsPassing}
use Rattle.chart_core.proofs.ordered.ordered_pass.Given as goal

abbrev pub invariant-loop-size : goal.invariant-loop-size
invariant-loop-size g l =
    let m = g.S.Shapes.meaning l.shapes in
    record {
      passing : IsPassing (grammar_of g.S.Shapes g.S.Cover.Cover l.shapes) l.pass;
      limits : limits_of l.pass.core ≡ limits_of l.initial.pass.core;
      leaves : leaves_of m l.pass.core ≡ leaves_of m l.initial.pass.core;
    }

abbrev pub decreases-loop-size : goal.decreases-loop-size
decreases-loop-size g l = rank l.limits.unary l.pass.size l.pass.level
