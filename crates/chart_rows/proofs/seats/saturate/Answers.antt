use Rattle.std.proofs.Common.{◌∙◌, sym}
use Rattle.chart_rows.proofs.seats.saturate.Goals as goal

pub advance-requires-clause-seat : goal.advance-requires-clause-seat
advance-requires-clause-seat g c = c.loop-number.invariant.id ∙ c.requires.seat

pub advance-requires-clause-shapes : goal.advance-requires-clause-shapes
advance-requires-clause-shapes g c = c.requires.shapes ∙ sym c.loop-number.invariant.shapes
