use Rattle.std.proofs.Common.{length}
use Rattle.chart_core.specs.Grammar.{grammar_of}
use Rattle.chart_core.specs.Noted.{tasks_at}
use Rattle.chart_core.specs.Passing.{IsSure, GoesOn, IsEntering}
use Rattle.chart_core.proofs.passing.Pass.make_due.Given as goal

abbrev pub invariant-loop-task : goal.invariant-loop-task
invariant-loop-task g l =
    let G = grammar_of g.S.Shapes g.S.Cover.Cover l.shapes in
    record {
      sure : IsSure G l.self;
      goes_on : GoesOn G l.initial.self l.self;
      entering : IsEntering G l.self;
    }

abbrev pub decreases-loop-task : goal.decreases-loop-task
decreases-loop-task g l = length (tasks_at l.self.notes l.self.size l.self.level)
