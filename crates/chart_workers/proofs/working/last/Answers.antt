use Rattle.std.proofs.Common.{◌∙◌, sym}
use Rattle.chart_core.specs.Grammar.{grammar_of}
use Rattle.shared_chart.specs.Seats.{shapes_of}
use Rattle.chart_workers.proofs.Turning.{reads_on, mark_seen}
use Rattle.chart_workers.proofs.working.last.Goals as goal

pub returns-then-pending-eq0 : goal.returns-then-pending-eq0
returns-then-pending-eq0 g c =
    let a = c.args.seat.now in let p = c.pending.new.seat in
    (reads_on (grammar_of g.S.Shapes g.S.Cover.Cover (shapes_of a)) a p c.pending.ensures.seat c.pending.ensures.sees, sym c.pending.ensures.pending ∙ c.if-pending-eq0.true)

pub returns-else-pending-eq0 : goal.returns-else-pending-eq0
returns-else-pending-eq0 g c =
    let a = c.args.seat.now in let p = c.pending.new.seat in let gr = grammar_of g.S.Shapes g.S.Cover.Cover (shapes_of a) in
    (reads_on gr a p c.pending.ensures.seat c.pending.ensures.sees, c.pending.ensures.seat.saw ∙ mark_seen gr (g.met.S.Shapes.laws (shapes_of a)) a p c.requires.core c.pending.ensures.sees c.requires.over (λ none. c.if-pending-eq0.false (c.pending.ensures.pending ∙ none)))
