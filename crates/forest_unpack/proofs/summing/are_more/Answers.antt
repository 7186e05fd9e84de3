use Rattle.std.proofs.Common.{◌<◌, map, rules, subst}
use Rattle.chart_core.specs.CoreView.{chart_of, leaves_of, limits_of}
use Rattle.chart_core.specs.Kept.{core_of, rows_in}
use Rattle.tree_model.specs.Counts as counts
use Rattle.forest_unpack.specs.Keeping.{asked_of, cover_in, host_in}
use Rattle.forest_unpack.specs.Inner.Classes.{classes_at}
use Rattle.forest_unpack.proofs.Totals.{more_are}
use Rattle.forest_unpack.proofs.summing.are_more.Goals as goal

pub returns-clause-more : goal.returns-clause-more
returns-clause-more g c = λ yes.
    let fulls = c.args.plan.now.fulls.now in
    let value = g.F.Fulls.value fulls in
    let w = g.F.Fulls.wholes fulls in
    let core = core_of c.args.plan.now.finished.now in
    let many : c.args.max < c.in_ok-sum.sum = search rules in
    let sums = subst (λ t. counts.Sums w host_in cover_in (classes_at value t) (map asked_of c.args.wanted.now) 0 c.in_ok-sum.sum) c.deref-4.ensures.value c.in_ok-sum.ensures in
    more_are value w (g.S.Shapes.calculus c.args.shapes.now) (limits_of core) (leaves_of (g.S.Shapes.meaning c.args.shapes.now) core) (chart_of (g.S.Shapes.meaning c.args.shapes.now) core) c.requires.suits.forest.complete c.requires.suits.apart
    (rows_in core) c.args.plan.now.ranks.now (map asked_of c.args.wanted.now) c.requires.skeleton c.in_ok-table.table.items c.in_ok-table.ensures.counted c.in_ok-sum.sum c.args.max sums many
