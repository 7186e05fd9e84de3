use Rattle.std.proofs.Common.{◌∙◌, sym}
use Rattle.chart_rows.proofs.Sat.{same_then}
use Rattle.chart_rows.proofs.turns.advance_after.Goals as goal

pub verdicts-requires-clause-shapes : goal.verdicts-requires-clause-shapes
verdicts-requires-clause-shapes g c = c.requires.shapes.0 ∙ sym c.find.ensures.seat.shapes

pub verdicts-requires-clause-found : goal.verdicts-requires-clause-found
verdicts-requires-clause-found g c = (c.args.task.0, c.in_ok-outcome.ensures.found)

pub enter-informed-requires-clause-shapes : goal.enter-informed-requires-clause-shapes
enter-informed-requires-clause-shapes g c = c.requires.shapes.0 ∙ sym c.find.ensures.seat.shapes ∙ sym c.verdicts.ensures.seat.shapes

pub enter-informed-requires-clause-made : goal.enter-informed-requires-clause-made
enter-informed-requires-clause-made g c = (c.in_ok-tested.ensures.found c.args.task.0 c.in_ok-outcome.ensures.found).made

pub enter-informed-requires-clause-right : goal.enter-informed-requires-clause-right
enter-informed-requires-clause-right g c = (c.in_ok-tested.ensures.found c.args.task.0 c.in_ok-outcome.ensures.found).right

pub enter-informed-requires-clause-belongs : goal.enter-informed-requires-clause-belongs
enter-informed-requires-clause-belongs g c = (c.in_ok-tested.ensures.found c.args.task.0 c.in_ok-outcome.ensures.found).belongs

pub returns-clause-first : goal.returns-clause-first
returns-clause-first g c =
    same_then c.args.seats.now.first c.verdicts.new.seat c.enter-informed.new.seat (same_then c.args.seats.now.first c.find.new.seat c.verdicts.new.seat c.find.ensures.seat c.verdicts.ensures.seat) c.enter-informed.ensures.enters.same
