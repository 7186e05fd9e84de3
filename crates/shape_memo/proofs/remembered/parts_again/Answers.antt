use Rattle.shape_memo.proofs.TupleLemmas.{each_one}
use Rattle.shape_memo.proofs.remembered.parts_again.Goals as goal

pub part_again-requires-2 : goal.part_again-requires-2
part_again-requires-2 g c = (each_one (g.S.Shapes.belongs c.args.shapes.now) c.args.parts.now c.requires).of_b

pub part_again-requires-3 : goal.part_again-requires-3
part_again-requires-3 g c = (each_one (g.S.Shapes.belongs c.args.shapes.now) c.args.parts.now c.requires).of_c

pub part_again-requires-4 : goal.part_again-requires-4
part_again-requires-4 g c = (each_one (g.S.Shapes.belongs c.args.shapes.now) c.args.parts.now c.requires).of_d
