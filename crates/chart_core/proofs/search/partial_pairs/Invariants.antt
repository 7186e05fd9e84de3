use Rattle.std.proofs.Common.{◌≡◌, ◌++◌, map, drop, All, None, slice_get}
use Rattle.chart_model.specs.Chart.{partial_task}
use Rattle.chart_model.specs.Picked.{picked}
use Rattle.chart_core.specs.View.{rows_of, into_of, task_of}
use Rattle.chart_core.proofs.search.partial_pairs.Given as goal

abbrev pub invariant-loop-place : goal.invariant-loop-place
invariant-loop-place g l =
    let k = g.S.Shapes.calculus l.shapes in
    let f = partial_task k l.unary (into_of l.rows) l.new.rule l.new.cover.now l.new.number in
    let get = slice_get (rows_of (g.S.Shapes.meaning l.shapes) l.rows) in
    record { fresh : All (λ t. t.done ≡ None) l.found.items; pairs : map task_of l.found.items ++ picked k f get (drop l.place-index l.places) ≡ picked k f get l.places }
