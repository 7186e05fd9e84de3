use Rattle.std.proofs.Common.{◌∙◌, sym}
use Rattle.chart_core.specs.Grammar.{grammar_of}
use Rattle.shared_chart.specs.Seats.{state_of}
use Rattle.chart_workers.proofs.Turning.{no_verdicts}
use Rattle.chart_rows.proofs.Sat.{same_then}
use Rattle.chart_rows.proofs.turns.advance.Goals as goal

pub enter-informed-requires-clause-shapes : goal.enter-informed-requires-clause-shapes
enter-informed-requires-clause-shapes g c = c.requires.shapes ∙ sym c.find.ensures.seat.shapes

pub enter-informed-requires-clause-verdicts : goal.enter-informed-requires-clause-verdicts
enter-informed-requires-clause-verdicts g c = no_verdicts (grammar_of g.S.Shapes g.S.Cover.Cover c.args.shapes.now) (state_of c.find.new.seat) c.in_ok-outcome.outcome _ c.new.ensures.items

pub returns : goal.returns
returns g c = same_then c.args.seat.now c.find.new.seat c.enter-informed.new.seat c.find.ensures.seat c.enter-informed.ensures.enters.same
