use Rattle.std.proofs.Common.{arith}
use Rattle.side_by_side.proofs.Steps.{opens}
use Rattle.side_by_side.proofs.draw_table.Draws.open.Goals as goal

pub of_words-requires : goal.of_words-requires
of_words-requires c = opens _ _ (let e = c.from.ensures in let r = c.requires in let s = c.ranges.seats.fits in omega arith)
