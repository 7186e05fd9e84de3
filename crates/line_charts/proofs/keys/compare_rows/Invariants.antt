use Rattle.std.proofs.Common.{◌≡◌, drop}
use Rattle.std.specs.Cmp.Lexicographic.{slice_cmp}
use Rattle.line_charts.specs.Keys.{compare_arcs}
use Rattle.line_charts.proofs.keys.compare_rows.Given as goal

abbrev pub invariant-loop-n : goal.invariant-loop-n
invariant-loop-n l = slice_cmp (slice_cmp compare_arcs) l.graph.arcs l.other.arcs ≡ slice_cmp (slice_cmp compare_arcs) (drop l.n l.graph.arcs) (drop l.n l.other.arcs)
