use Rattle.std.proofs.Common.{All, IfOk, map, sym, subst}
use Rattle.chart_core.specs.Leaves.{leaf_seen, LeafBelongs}
use Rattle.packed_items.specs.Packed.{Fit, IsFound}
use Rattle.packed_items.proofs.Same.{same_seen, same_belong}
use Rattle.packed_items.proofs.sieving.answer_over.Goals as goal

pub answer_asking-requires-clause-leaves : goal.answer_asking-requires-clause-leaves
answer_asking-requires-clause-leaves g c κs within =
    let over = c.in_ok-leaves.leaves.items in
    let all = same_belong over c.args.item.leaves.items c.in_ok-leaves.ensures (g.S.Shapes.calculus c.args.sieving.now.shapes.now) (g.S.Shapes.belongs c.args.sieving.now.shapes.now) c.requires.leaves in
    subst (λ s. All (LeafBelongs (g.S.Shapes.calculus s) (g.S.Shapes.belongs s)) over) (sym c.new-sieved.ensures) all

pub answer_asking-requires-clause-fit : goal.answer_asking-requires-clause-fit
answer_asking-requires-clause-fit g c κs within =
    let over = c.in_ok-leaves.leaves.items in
    let f = c.args.item.fulls.now in
    let plain = c.args.sieving.now.shapes.now in
    let same = same_seen over c.args.item.leaves.items c.in_ok-leaves.ensures (g.S.Shapes.meaning plain) in
    let fit = subst (Fit (g.S.Shapes.calculus plain) (g.S.Shapes.full plain) (g.S.Shapes.agrees plain) (g.G.Fulls.wholes f) (g.G.Fulls.named f) (g.G.Fulls.ruled f)) (sym same) c.requires.fit in
    subst (λ s. Fit (g.S.Shapes.calculus s) (g.S.Shapes.full s) (g.S.Shapes.agrees s) (g.G.Fulls.wholes f) (g.G.Fulls.named f) (g.G.Fulls.ruled f) (map (leaf_seen (g.S.Shapes.meaning s)) over)) (sym c.new-sieved.ensures) fit

pub returns : goal.returns
returns g c =
    let over = c.in_ok-leaves.leaves.items in
    let w = g.G.Fulls.wholes c.args.item.fulls.now in
    let limits = c.args.terms.now.limits.now in
    let plain = c.args.sieving.now.shapes.now in
    let same = same_seen over c.args.item.leaves.items c.in_ok-leaves.ensures (g.S.Shapes.meaning plain) in
    let found = subst (λ s. IfOk c.answer_asking.result (IsFound (g.S.Shapes.calculus s) (g.S.Shapes.full s) (g.S.Shapes.agrees s) w limits (map (leaf_seen (g.S.Shapes.meaning s)) over))) c.new-sieved.ensures c.answer_asking.ensures in
    subst (λ ls. IfOk c.answer_asking.result (IsFound (g.S.Shapes.calculus plain) (g.S.Shapes.full plain) (g.S.Shapes.agrees plain) w limits ls)) same found
