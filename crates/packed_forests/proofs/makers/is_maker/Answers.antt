use Rattle.std.proofs.lemmas.Option.{slice_get_within}
use Rattle.chart_model.specs.At.{from_get}
use Rattle.chart_core.specs.Kept.{core_of, rows_in}
use Rattle.chart_core.specs.View.{Belongs}
use Rattle.chart_core.proofs.Frost.{all_at_place}
use Rattle.packed_forests.proofs.makers.is_maker.Goals as goal

pub row-top-requires : goal.row-top-requires
row-top-requires g c = slice_get_within (rows_in (core_of c.args.finished.now)) c.args.host.0 c.requires.host.0 c.requires.host.1

pub is_over-requires-clause-host : goal.is_over-requires-clause-host
is_over-requires-clause-host g c =
    let rows = rows_in (core_of c.args.finished.now) in
    all_at_place (Belongs (g.S.Shapes.calculus c.args.shapes.now) (g.S.Shapes.belongs c.args.shapes.now)) rows c.args.host.0 c.row-top.result.now c.requires.core.belongs_all (from_get rows c.args.host.0 c.row-top.result.now c.row-top.ensures)

pub is_over-requires-clause-row : goal.is_over-requires-clause-row
is_over-requires-clause-row g c =
    let rows = rows_in (core_of c.args.finished.now) in
    all_at_place (Belongs (g.S.Shapes.calculus c.args.shapes.now) (g.S.Shapes.belongs c.args.shapes.now)) rows c.args.row.0 c.row-maker.result.now c.requires.core.belongs_all (from_get rows c.args.row.0 c.row-maker.result.now c.row-maker.ensures)
