use Rattle.std.proofs.Common.{◌≡◌, map, take}
use Rattle.chart_core.specs.Kept.{core_of, rows_in}
use Rattle.forest_unpack.specs.Ranks.{rank_by}
use Rattle.forest_unpack.proofs.ranks.ranks_of.Given as goal

abbrev pub invariant-loop-i : goal.invariant-loop-i
invariant-loop-i g l = l.ranks.items ≡ map (rank_by g.S.Cover.Cover.extent) (take l.i (rows_in (core_of l.finished)))
