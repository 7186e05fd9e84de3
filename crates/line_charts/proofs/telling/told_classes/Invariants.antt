use Rattle.std.proofs.Common.{◌<◌, All, map, take}
use Rattle.type_hierarchy.specs.Table.{count_of}
use Rattle.chart_model.specs.Calculus.{Along}
use Rattle.chart_core.specs.Kept.{core_of, rows_in}
use Rattle.book_signs.specs.Trees.{signs_of}
use Rattle.line_charts.specs.Views.{class_of}
use Rattle.line_charts.specs.Inner.Hosts.{trees_in, IsToldHost}
use Rattle.line_charts.proofs.telling.told_classes.Given as goal

abbrev pub invariant-loop-host : goal.invariant-loop-host
invariant-loop-host g l =
    Along (IsToldHost (signs_of l.signs) (rows_in (core_of l.finished)) (trees_in l.trees) l.table) (map (λ h. h) (take l.host-index l.hosts)) (map class_of l.classes.items)
    × All (λ c. c.ty.0 < count_of l.signs.book.system.types) l.classes.items
