use Rattle.std.proofs.Common.{map, take}
use Rattle.chart_model.specs.Calculus.{Along}
use Rattle.chart_core.specs.Kept.{core_of, rows_in}
use Rattle.book_signs.specs.Trees.{signs_of}
use Rattle.line_charts.specs.Views.{maker_of}
use Rattle.line_charts.specs.Inner.Stages.{rule_place, IsMakerAt}
use Rattle.line_charts.specs.Inner.Hosts.{trees_in}
use Rattle.line_charts.proofs.making.makers_at.Given as goal

abbrev pub invariant-loop-row : goal.invariant-loop-row
invariant-loop-row g l =
    Along (IsMakerAt (rows_in (core_of l.finished)) (trees_in l.trees) (rule_place (signs_of l.signs)) l.table) (map (λ r. r.0) (take l.row-index l.rows)) (map maker_of l.makers.items)
