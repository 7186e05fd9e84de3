use Rattle.std.proofs.Common.{[], map, get_or, sym, subst}
use Rattle.chart_model.specs.Calculus.{Along, along_none}
use Rattle.chart_model.specs.At.{at_below, from_get}
use Rattle.chart_core.specs.Kept.{core_of, rows_in}
use Rattle.book_signs.specs.Trees.{signs_of}
use Rattle.line_charts.specs.Views.{maker_of}
use Rattle.line_charts.specs.Inner.Stages.{rule_place, IsMakerAt}
use Rattle.line_charts.specs.Inner.Hosts.{trees_in}
use Rattle.line_charts.proofs.Steps.{told_next}
use Rattle.line_charts.proofs.RowSteps.{same_read}
use Rattle.line_charts.proofs.making.makers_at.Goals as goal

pub loop-row-init : goal.loop-row-init
loop-row-init g c =
    subst (λ ms. Along (IsMakerAt (rows_in (core_of c.args.finished.now)) (trees_in c.args.trees.now) (rule_place (signs_of c.args.signs.now)) c.args.table.now) [] (map maker_of ms)) (sym c.new-makers.ensures.items) along_none

pub row-requires : goal.row-requires
row-requires g c =
    let told = c.requires c.loop-row.row-index record { 0 = 0 } c.loop-row-test.true in
    at_below (from_get (rows_in (core_of c.args.finished.now)) _ told.row told.at)

pub loop-row-preserved : goal.loop-row-preserved
loop-row-preserved g c =
    let rows = c.args.rows.now in
    let i = c.loop-row.row-index in
    let x = get_or rows i record { 0 = 0 } in
    told_next (IsMakerAt (rows_in (core_of c.args.finished.now)) (trees_in c.args.trees.now) (rule_place (signs_of c.args.signs.now)) c.args.table.now) (λ r. r.0) maker_of rows i x
    c.loop-row.makers.items _ c.in_ok-maker_at.field-0 c.loop-row-test.true (same_read rows i record { 0 = 0 } x c.loop-row-test.true) c.in_ok-push.ensures.items
    (record { row = c.row.result.now; at = c.row.ensures; made = c.in_ok-maker_at.ensures }) c.loop-row.invariant
