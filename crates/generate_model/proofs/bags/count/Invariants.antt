use Rattle.std.proofs.Common.{◌≡◌, ◌+◌, ◌≤◌, map, drop, string_bytes}
use Rattle.generate_model.specs.Bags.{count}
use Rattle.generate_model.proofs.bags.count.Given as goal

abbrev pub invariant-loop-other : goal.invariant-loop-other
invariant-loop-other l = record {
  same : l.times + count l.pred (map string_bytes (drop l.other-index l.preds)) ≡ count l.pred (map string_bytes l.preds);
  few : l.times ≤ l.other-index;
}
