use Rattle.std.proofs.Common.{◌≡◌, drop}
use Rattle.chart_model.specs.Lists.{add_all, all_within}
use Rattle.chart_model.proofs.counts.fit.Given as goal

abbrev pub invariant-loop-place : goal.invariant-loop-place
invariant-loop-place l = record {
  within : all_within (add_all l.left l.right) l.bound ≡ all_within (add_all (drop l.place l.left) (drop l.place l.right)) (drop l.place l.bound);
}
