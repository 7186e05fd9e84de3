use Rattle.std.proofs.Common.{◌≡◌, ◌++◌, drop}
use Rattle.chart_model.specs.Lists.{add_all}
use Rattle.chart_model.proofs.counts.sums.Given as goal

abbrev pub invariant-loop-place : goal.invariant-loop-place
invariant-loop-place l = record {
  added : l.sums.items ++ add_all (drop l.place l.left) (drop l.place l.right) ≡ add_all l.left l.right;
}
