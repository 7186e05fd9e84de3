use Rattle.std.proofs.Common.{sym, subst}
use Rattle.chart_model.specs.Chart.{OfWhole}
use Rattle.chart_core.specs.View.{kind_of, list_of}
use Rattle.chart_core.specs.declared.RowKind.{RowKind}
use Rattle.book_signs.specs.Trees.{signs_of}
use Rattle.line_charts.specs.Charts.{by_rule}
use Rattle.line_charts.specs.Inner.Stages.{rule_place, IsRowMaker, rule_maker}
use Rattle.line_charts.specs.Inner.Hosts.{trees_in}
use Rattle.line_charts.proofs.making.maker_at.Goals as goal

pub returns-in_ok-classes-in-Whole : goal.returns-in_ok-classes-in-Whole
returns-in_ok-classes-in-Whole g c =
    let trees = trees_in c.args.trees.now in
    let place = rule_place (signs_of c.args.signs.now) in
    let table = c.args.table.now in
    let ds = list_of c.args.row.now.daughters in
    let rule = c.in-Whole.rule in
    let ns = c.in_ok-classes-in-Whole.classes.items in
    subst (λ (k : RowKind). IsRowMaker trees place table (kind_of k) ds (by_rule c.place_of.result ns)) (sym c.in-Whole.is)
    (subst (λ p. IsRowMaker trees place table (OfWhole rule) ds (by_rule p ns)) (sym c.place_of.ensures) (rule_maker rule ds ns c.in_ok-classes-in-Whole.ensures))
