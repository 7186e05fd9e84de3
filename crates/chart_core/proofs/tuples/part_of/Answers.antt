use Rattle.std.proofs.Common.{length, sym, subst, Some}
use Rattle.chart_core.specs.Copies.{IsPartOf}
use Rattle.chart_core.proofs.Buckets.{get_here}
use Rattle.chart_core.proofs.Frosted.{one_below}
use Rattle.chart_core.proofs.tuples.part_of.Goals as goal

pub returns-in_ok-cover-in-Some-shape : goal.returns-in_ok-cover-in-Some-shape
returns-in_ok-cover-in-Some-shape g c =
    let rows = c.args.rows.now in
    let row = c.index-rows-id.result in
    let below = one_below (length rows) c.args.row c.in-Some.id c.in-Some.is c.requires.in_range in
    let shared = c.in_ok-shape-in-Some-shape.ensures in
    subst (λ o. IsPartOf (g.S.Shapes.belongs c.args.shapes.now) (g.S.Shapes.meaning c.args.shapes.now) rows o (Some (record { shape = c.in_ok-shape-in-Some-shape.shape; cover = c.in_ok-cover-in-Some-shape.cover }))) (sym c.in-Some.is)
    (record { row = row; at = get_here rows c.in-Some.id.0 row below c.index-rows-id.is; shape = c.in-Some-shape.shape; shape_is = c.in-Some-shape.is; same = shared.1; belongs_too = shared.0 }, c.in_ok-cover-in-Some-shape.ensures)
