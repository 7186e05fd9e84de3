use Rattle.std.proofs.Common.{refl, subst, sym}
use Rattle.chart_core.specs.CoreView.{chart_of, leaves_of, limits_of}
use Rattle.chart_core.specs.Kept.{core_of, rows_in}
use Rattle.forest_unpack.specs.Inner.Classes.{AreFit}
use Rattle.forest_unpack.specs.Inner.Memos.{known_in}
use Rattle.forest_unpack.proofs.Products.{table_on}
use Rattle.forest_unpack.proofs.Totals.{set_counted, set_fit}
use Rattle.forest_unpack.proofs.summing.count_into.Goals as goal

pub count_host-requires-clause-table : goal.count_host-requires-clause-table
count_host-requires-clause-table g c =
    let fulls = c.args.plan.now.fulls.now in
    let value = g.F.Fulls.value fulls in
    subst (AreFit value (g.F.Fulls.wholes fulls) (g.F.Fulls.named fulls) (known_in value c.args.memo.now)) (sym c.deref.ensures.value) c.requires.fit

pub returns-clause-memo : goal.returns-clause-memo
returns-clause-memo g c = c.in_ok-made.ensures.memo.memo

pub returns-clause-fit : goal.returns-clause-fit
returns-clause-fit g c =
    let fulls = c.args.plan.now.fulls.now in
    let value = g.F.Fulls.value fulls in
    let w = g.F.Fulls.wholes fulls in
    let named = g.F.Fulls.named fulls in
    let known = known_in value c.count_host.new.memo in
    set_fit value w named known c.args.table.now.items _ c.args.host c.in_ok-made.made refl
    (table_on value w named (known_in value c.args.memo.now) known c.in_ok-made.ensures.memo.known c.args.table.now.items c.requires.fit) c.in_ok-made.ensures.made

pub returns-clause-counted : goal.returns-clause-counted
returns-clause-counted g c =
    let fulls = c.args.plan.now.fulls.now in
    let core = core_of c.args.plan.now.finished.now in
    set_counted (g.F.Fulls.value fulls) (g.F.Fulls.wholes fulls) (g.S.Shapes.calculus c.args._shapes.now) (limits_of core) (leaves_of (g.S.Shapes.meaning c.args._shapes.now) core) (chart_of (g.S.Shapes.meaning c.args._shapes.now) core) c.requires.suits.forest.complete c.requires.suits.apart
    (rows_in core) c.requires.told c.args.table.now.items c.deref.result.now _ c.args.host c.in_ok-made.made c.deref.ensures.value refl c.in_ok-made.ensures.counts c.requires.counted
