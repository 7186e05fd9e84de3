use Rattle.side_by_side.proofs.Steps.{closes}
use Rattle.side_by_side.proofs.draw_table.Draws.close.Goals as goal

pub returns : goal.returns
returns c = closes _ _ _ c.args.seat.me.0 _ _ c.requires.whole c.close_with-closed.ensures.values.2
