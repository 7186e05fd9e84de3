use Rattle.chart_model.specs.At.{from_get}
use Rattle.chart_core.specs.Kept.{core_of, rows_in}
use Rattle.forest_unpack.specs.Ranks.{rank_by}
use Rattle.forest_unpack.proofs.Sizing.{sized, mapped_next}
use Rattle.forest_unpack.proofs.ranks.ranks_of.Goals as goal

pub rank_of-requires : goal.rank_of-requires
rank_of-requires g c =
    let rows = rows_in (core_of c.args.finished.now) in
    let s = c.requires.0 in
    sized (g.S.Shapes.calculus s) (g.S.Shapes.belongs s) (g.S.Shapes.meaning s) rows c.requires.1.belongs_all (g.met.S.Shapes.laws s) g.S.Cover.Cover.extent (g.met.S.Shapes.sizes s) c.loop-i.i _ (from_get rows c.loop-i.i _ c.row-row.ensures)

pub loop-i-preserved : goal.loop-i-preserved
loop-i-preserved g c =
    mapped_next (rank_by g.S.Cover.Cover.extent) (rows_in (core_of c.args.finished.now)) c.loop-i.i c.row-row.result.now c.rank_of.result c.loop-i.ranks.items _ c.row-row.ensures c.loop-i.invariant c.rank_of.ensures c.in_ok-push.ensures.items
