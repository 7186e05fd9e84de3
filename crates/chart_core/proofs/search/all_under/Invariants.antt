use Rattle.std.proofs.Common.{◌≡◌, ◌++◌, drop}
use Rattle.std.specs.List.{filter}
use Rattle.chart_core.specs.Tests.{at_place, is_peer}
use Rattle.chart_core.proofs.search.all_under.Given as goal

abbrev pub invariant-loop-place : goal.invariant-loop-place
invariant-loop-place g l =
    let k = g.S.Shapes.calculus l.by.shapes.now in
    let m = g.S.Shapes.meaning l.by.shapes.now in
    let t = at_place (is_peer k m (k.over (m l.by.shape.now)) l.by.cover.now l.by.level) l.rows in
    l.found.items ++ filter t (drop l.place-index l.places) ≡ filter t l.places
