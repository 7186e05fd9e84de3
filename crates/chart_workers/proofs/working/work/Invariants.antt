use Rattle.chart_core.specs.Grammar.{grammar_of}
use Rattle.chart_workers.specs.Turns.{GoesOn}
use Rattle.chart_workers.proofs.working.work.Given as goal

abbrev pub invariant-loop : goal.invariant-loop
invariant-loop g l = GoesOn (grammar_of g.S.Shapes g.S.Cover.Cover l.shapes) l.initial.post.seat l.post.seat
