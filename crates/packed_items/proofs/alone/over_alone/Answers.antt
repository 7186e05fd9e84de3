use Rattle.std.proofs.Common.{All, IfOk, map, sym, subst}
use Rattle.chart_core.specs.Leaves.{leaf_seen, LeafBelongs}
use Rattle.packed_items.specs.Packed.{Fit, IsFound}
use Rattle.packed_items.proofs.Same.{same_seen, same_belong}
use Rattle.packed_items.proofs.alone.over_alone.Goals as goal

pub asking_alone-requires-clause-leaves : goal.asking_alone-requires-clause-leaves
asking_alone-requires-clause-leaves g c =
    let over = c.in_ok-leaves.leaves.items in
    let all = same_belong over c.args.leaves.items c.in_ok-leaves.ensures (g.S.Shapes.calculus c.args.shapes.now) (g.S.Shapes.belongs c.args.shapes.now) c.requires.leaves in
    subst (λ s. All (LeafBelongs (g.S.Shapes.calculus s) (g.S.Shapes.belongs s)) over) (sym c.new-sieved.ensures) all

pub asking_alone-requires-clause-fit : goal.asking_alone-requires-clause-fit
asking_alone-requires-clause-fit g c =
    let over = c.in_ok-leaves.leaves.items in
    let f = c.args.fulls.now in
    let plain = c.args.shapes.now in
    let same = same_seen over c.args.leaves.items c.in_ok-leaves.ensures (g.S.Shapes.meaning plain) in
    let fit = subst (Fit (g.S.Shapes.calculus plain) (g.S.Shapes.full plain) (g.S.Shapes.agrees plain) (g.G.Fulls.wholes f) (g.G.Fulls.named f) (g.G.Fulls.ruled f)) (sym same) c.requires.fit in
    subst (λ s. Fit (g.S.Shapes.calculus s) (g.S.Shapes.full s) (g.S.Shapes.agrees s) (g.G.Fulls.wholes f) (g.G.Fulls.named f) (g.G.Fulls.ruled f) (map (leaf_seen (g.S.Shapes.meaning s)) over)) (sym c.new-sieved.ensures) fit

pub returns : goal.returns
returns g c =
    let over = c.in_ok-leaves.leaves.items in
    let w = g.G.Fulls.wholes c.args.fulls.now in
    let limits = c.args.limits.now in
    let plain = c.args.shapes.now in
    let same = same_seen over c.args.leaves.items c.in_ok-leaves.ensures (g.S.Shapes.meaning plain) in
    let found = subst (λ s. IfOk c.asking_alone.result (IsFound (g.S.Shapes.calculus s) (g.S.Shapes.full s) (g.S.Shapes.agrees s) w limits (map (leaf_seen (g.S.Shapes.meaning s)) over))) c.new-sieved.ensures c.asking_alone.ensures in
    subst (λ ls. IfOk c.asking_alone.result (IsFound (g.S.Shapes.calculus plain) (g.S.Shapes.full plain) (g.S.Shapes.agrees plain) w limits ls)) same found
