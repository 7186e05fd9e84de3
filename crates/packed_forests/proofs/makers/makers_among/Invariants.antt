use Rattle.std.proofs.Common.{◌≡◌, ◌++◌, drop, map}
use Rattle.std.specs.List.{filter}
use Rattle.chart_core.specs.Kept.{core_of, rows_in}
use Rattle.packed_forests.specs.Inner.Told.{makes}
use Rattle.packed_forests.proofs.makers.makers_among.Given as goal

abbrev pub invariant-loop-place : goal.invariant-loop-place
invariant-loop-place g l =
    let t = makes (g.S.Shapes.calculus l.shapes) (g.S.Shapes.meaning l.shapes) (rows_in (core_of l.finished)) l.host.0 in
    map (λ r. r.0) l.makers.items ++ filter t (drop l.place-index l.places) ≡ filter t l.places
