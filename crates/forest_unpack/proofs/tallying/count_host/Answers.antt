use Rattle.std.proofs.Common.{◌+◌, map, subst, sym}
use Rattle.chart_core.specs.Kept.{core_of, rows_in}
use Rattle.forest_unpack.specs.Groups.{IsTold}
use Rattle.forest_unpack.specs.Plans.{row_of}
use Rattle.forest_unpack.specs.Inner.Classes.{classes_at}
use Rattle.forest_unpack.specs.Inner.Memos.{known_in}
use Rattle.forest_unpack.proofs.Memos.{learned_same}
use Rattle.forest_unpack.proofs.Products.{learned_on, table_on}
use Rattle.forest_unpack.proofs.Totals.{group_fits, none_fit, rows_next, rows_none, rows_over}
use Rattle.forest_unpack.proofs.tallying.count_host.Goals as goal

pub loop-row-init : goal.loop-row-init
loop-row-init g c =
    let fulls = c.args.plan.now.fulls.now in
    let value = g.F.Fulls.value fulls in
    let w = g.F.Fulls.wholes fulls in (
      learned_same value w c.args.memo.now c.requires.memo,
      none_fit value w (g.F.Fulls.named fulls) (known_in value c.args.memo.now) c.new-made.result.items c.new-made.ensures.items,
      rows_none value w (classes_at value c.args.table.now) c.deref-row-items.result.now c.new-made.result.items c.new-made.ensures.items,
    )

pub loop-row-preserved : goal.loop-row-preserved
loop-row-preserved g c =
    let value = g.F.Fulls.value c.args.plan.now.fulls.now in
    let w = g.F.Fulls.wholes c.args.plan.now.fulls.now in (
      learned_on value w c.args.memo.now c.loop-row.memo c.count_row.new.memo c.loop-row.invariant.0 c.in_ok-count_row.ensures.memo,
      c.in_ok-count_row.ensures.made,
      rows_next value w (classes_at value c.args.table.now) c.deref-row-items.result.now c.loop-row.row-index c.row-item.result c.loop-row.made.items c.count_row.new.made.items c.loop-row-test.true c.row-item.is c.in_ok-count_row.ensures.counts c.loop-row.invariant.2,
    )

pub count_row-requires-clause-row : goal.count_row-requires-clause-row
count_row-requires-clause-row g c =
    let fulls = c.args.plan.now.fulls.now in
    let rows = rows_in (core_of c.args.plan.now.finished.now) in
    let told = subst (λ zs. IsTold rows c.args.host (map row_of zs)) (sym c.deref-row-items.ensures.value) c.in_ok-group.ensures in
    (c.args.host, group_fits (g.F.Fulls.named fulls) (g.F.Fulls.ruled fulls) rows c.args.plan.now.members.now.last.items c.args.plan.now.members.now.before.items c.args.plan.now.ranks.now c.requires.plan c.args.host c.deref-row-items.result.now told c.loop-row.row-index c.row-item.result c.loop-row-test.true c.row-item.is)

pub count_row-requires-clause-table : goal.count_row-requires-clause-table
count_row-requires-clause-table g c =
    let fulls = c.args.plan.now.fulls.now in
    let value = g.F.Fulls.value fulls in
    table_on value (g.F.Fulls.wholes fulls) (g.F.Fulls.named fulls) (known_in value c.args.memo.now) (known_in value c.loop-row.memo) c.loop-row.invariant.0.known c.args.table.now c.requires.table

pub returns-then-branch-clause-memo : goal.returns-then-branch-clause-memo
returns-then-branch-clause-memo g c =
    learned_on (g.F.Fulls.value c.args.plan.now.fulls.now) (g.F.Fulls.wholes c.args.plan.now.fulls.now) c.args.memo.now c.loop-row.memo c.count_row.new.memo c.loop-row.invariant.0 c.in_ok-count_row.ensures.memo

pub returns-then-branch-clause-counts : goal.returns-then-branch-clause-counts
returns-then-branch-clause-counts g c =
    let value = g.F.Fulls.value c.args.plan.now.fulls.now in
    let w = g.F.Fulls.wholes c.args.plan.now.fulls.now in
    let rows = rows_in (core_of c.args.plan.now.finished.now) in
    let told = subst (λ zs. IsTold rows c.args.host (map row_of zs)) (sym c.deref-row-items.ensures.value) c.in_ok-group.ensures in
    rows_over value w rows c.args.table.now c.args.host c.deref-row-items.result.now (c.loop-row.row-index + 1) c.count_row.new.made.items told
    (rows_next value w (classes_at value c.args.table.now) c.deref-row-items.result.now c.loop-row.row-index c.row-item.result c.loop-row.made.items c.count_row.new.made.items c.loop-row-test.true c.row-item.is c.in_ok-count_row.ensures.counts c.loop-row.invariant.2)

pub returns-clause-counts : goal.returns-clause-counts
returns-clause-counts g c =
    let value = g.F.Fulls.value c.args.plan.now.fulls.now in
    let w = g.F.Fulls.wholes c.args.plan.now.fulls.now in
    let rows = rows_in (core_of c.args.plan.now.finished.now) in
    let told = subst (λ zs. IsTold rows c.args.host (map row_of zs)) (sym c.deref-row-items.ensures.value) c.in_ok-group.ensures in
    rows_over value w rows c.args.table.now c.args.host c.deref-row-items.result.now c.loop-row.row-index c.loop-row.made.items told c.loop-row.invariant.2
