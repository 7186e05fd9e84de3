use Rattle.std.proofs.Common.{◌≡◌, map, drop, string_bytes}
use Rattle.chart_model.specs.Lists.{all_within}
use Rattle.generate_model.specs.Bags.{tally}
use Rattle.generate_model.proofs.bags.are_within.Given as goal

abbrev pub invariant-loop-place : goal.invariant-loop-place
invariant-loop-place l = record {
  within : all_within (tally (map string_bytes l.places) (map string_bytes l.preds)) l.counts ≡ all_within (tally (map string_bytes (drop l.place l.places)) (map string_bytes l.preds)) (drop l.place l.counts);
}
