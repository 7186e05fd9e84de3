use Rattle.std.proofs.Common.{arith}
use Rattle.side_by_side.proofs.Steps.{glues}
use Rattle.side_by_side.proofs.draw_table.Draws.join.Goals as goal

pub join_seat-requires : goal.join_seat-requires
join_seat-requires c = (c.requires.id.0, c.requires.id.1, c.requires.empty, (let w = c.args.self.now.words in omega arith), glues _ _ _ _ c.args.seat.now.me.0 c.args.other.me.0 c.requires.some)
