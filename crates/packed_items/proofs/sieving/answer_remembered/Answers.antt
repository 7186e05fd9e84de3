use Rattle.std.proofs.Common.{All, IfOk, map, sym, subst}
use Rattle.chart_core.specs.Leaves.{leaf_seen, LeafBelongs}
use Rattle.packed_items.specs.Packed.{Fit, IsFound}
use Rattle.packed_items.proofs.sieving.answer_remembered.Goals as goal

pub answer_sieved-requires-clause-leaves : goal.answer_sieved-requires-clause-leaves
answer_sieved-requires-clause-leaves g c κs within =
    subst (λ s. All (LeafBelongs (g.S.Shapes.calculus s) (g.S.Shapes.belongs s)) c.args.item.leaves.items) (sym c.shapes-plain.ensures) c.requires.leaves

pub answer_sieved-requires-clause-fit : goal.answer_sieved-requires-clause-fit
answer_sieved-requires-clause-fit g c κs within =
    let f = c.args.item.fulls.now in
    subst (λ s. Fit (g.S.Shapes.calculus s) (g.S.Shapes.full s) (g.S.Shapes.agrees s) (g.G.Fulls.wholes f) (g.G.Fulls.named f) (g.G.Fulls.ruled f) (map (leaf_seen (g.S.Shapes.meaning s)) c.args.item.leaves.items)) (sym c.shapes-plain.ensures) c.requires.fit

pub returns-then-is_full : goal.returns-then-is_full
returns-then-is_full g c =
    subst (λ s. IfOk c.answer_sieved.result (IsFound (g.S.Shapes.calculus s) (g.S.Shapes.full s) (g.S.Shapes.agrees s) (g.G.Fulls.wholes c.args.item.fulls.now) c.args.terms.now.limits.now (map (leaf_seen (g.S.Shapes.meaning s)) c.args.item.leaves.items)))
    c.shapes-plain.ensures c.answer_sieved.ensures
