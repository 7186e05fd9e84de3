use Rattle.std.proofs.Common.{IfOk, map, subst}
use Rattle.chart_core.specs.Leaves.{leaf_seen}
use Rattle.packed_items.specs.Packed.{IsFound}
use Rattle.packed_items.proofs.sieving.answer_sieved.Goals as goal

pub returns : goal.returns
returns g c =
    subst (λ s. IfOk c.answer_over.result (IsFound (g.S.Shapes.calculus s) (g.S.Shapes.full s) (g.S.Shapes.agrees s) (g.G.Fulls.wholes c.args.item.fulls.now) c.args.terms.now.limits.now (map (leaf_seen (g.S.Shapes.meaning s)) c.args.item.leaves.items)))
    c.in-Ok.ensures c.answer_over.ensures
