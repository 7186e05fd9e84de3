use Rattle.packed_forests.proofs.Laws.{rows_are_makers}
use Rattle.packed_forests.proofs.forest_laws.Goals as goal

pub returns : goal.returns
returns g c = rows_are_makers (g.S.Shapes.calculus c.args._shapes.now) (g.met.S.Shapes.laws c.args._shapes.now)
