use Rattle.std.proofs.Common.{arith}
use Rattle.side_by_side.proofs.Steps.{cuts}
use Rattle.side_by_side.proofs.draw_table.Draws.cut.Goals as goal

pub split_seat-requires : goal.split_seat-requires
split_seat-requires c = (c.requires.id, (let w = c.args.self.now.words in omega arith), cuts _ _ _ c.args.seat.now.me.0 c.requires.some.0 c.requires.some.1 c.requires.some.2)
