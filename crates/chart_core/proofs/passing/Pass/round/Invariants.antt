use Rattle.std.proofs.Common.{ℕ, ◌≤◌, ◌-◌}
use Rattle.chart_core.specs.Grammar.{grammar_of}
use Rattle.chart_core.specs.Kept.{tasks_of}
use Rattle.chart_core.specs.Passing.{IsSure, GoesOn, IsTaking}
use Rattle.chart_core.proofs.passing.Pass.round.Given as goal

abbrev pub invariant-loop-self : goal.invariant-loop-self
invariant-loop-self g l =
    let G = grammar_of g.S.Shapes g.S.Cover.Cover l.shapes in
    record {
      sure : IsSure G l.self;
      goes_on : GoesOn G l.initial.self l.self;
      inside : l.self.seen ≤ l.far;
      far_is : l.far ≤ tasks_of l.initial.self.core;
      taking : (short : ℕ) → IsTaking G l.initial.self l.far short → IsTaking G l.self l.far short;
    }

abbrev pub decreases-loop-self : goal.decreases-loop-self
decreases-loop-self g l = l.far - l.self.seen
