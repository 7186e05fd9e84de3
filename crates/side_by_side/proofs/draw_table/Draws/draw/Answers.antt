use Rattle.std.proofs.Common.{arith}
use mathlib.Core.Option.{none}
use Rattle.atomic_table.specs.Table.{step}
use Rattle.side_by_side.proofs.Steps.{draws}
use Rattle.side_by_side.proofs.draw_table.Draws.draw.Goals as goal

pub fetch_add-requires : goal.fetch_add-requires
fetch_add-requires c = (c.requires.id, (let w = c.args.self.now.words in omega arith), draws _ _ _ _ (step 0 0 1 0 none) c.args.seat.now.me.0 c.args.seat.now.me.1 c.requires.room)
