use Rattle.shape_memo.proofs.TupleLemmas.{begins}
use Rattle.shape_memo.proofs.front.first_alone.Goals as goal

pub returns-clause-begins : goal.returns-clause-begins
returns-clause-begins g c = begins (g.S.Shapes.meaning c.args.shapes.now) c.args.parts.now c.in-Some.part c.in_ok-shape.shape c.in-Some.is c.in_ok-shape.ensures.1
