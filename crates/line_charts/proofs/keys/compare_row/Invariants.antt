use Rattle.std.proofs.Common.{◌≡◌, length, drop}
use Rattle.std.specs.Cmp.Lexicographic.{slice_cmp}
use Rattle.line_charts.specs.Keys.{compare_arcs}
use Rattle.line_charts.proofs.keys.compare_row.Given as goal

abbrev pub invariant-loop-arc : goal.invariant-loop-arc
invariant-loop-arc l = slice_cmp compare_arcs l.arcs l.others ≡ slice_cmp compare_arcs (drop (length l.yielded) l.arcs) (drop (length l.yielded) l.others)
