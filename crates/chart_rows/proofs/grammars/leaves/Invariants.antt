use Rattle.std.proofs.Common.{All, ◌≤◌}
use Rattle.chart_model.specs.Spans.{is_span}
use Rattle.chart_rows.proofs.grammars.leaves.Given as goal

abbrev pub invariant-loop-shape : goal.invariant-loop-shape
invariant-loop-shape g l = (l.from ≤ 1000) × All (λ leaf. Unit {0} × is_span leaf.cover) l.leaves.items
