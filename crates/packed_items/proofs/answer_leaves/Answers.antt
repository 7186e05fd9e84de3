use Rattle.std.proofs.Common.{IfOk, subst}
use Rattle.packed_items.specs.Packed.{IsFound}
use Rattle.packed_items.proofs.answer_leaves.Goals as goal

pub returns-in-Ok : goal.returns-in-Ok
returns-in-Ok g c =
    let s = c.args.shapes.now in
    subst (λ ls. IfOk c.answer_chart.result (IsFound (g.S.Shapes.calculus s) (g.S.Shapes.full s) (g.S.Shapes.agrees s) (g.F.Fulls.wholes c.args.item.fulls.now) c.args.terms.now.limits.now ls)) c.in-Ok.ensures.leaves_same c.answer_chart.ensures
