use Rattle.std.proofs.Common.{◌≡◌, map, drop, string_bytes}
use Rattle.generate_model.specs.Bags.{all_noted, distinct}
use Rattle.generate_model.proofs.bags.distinct.Given as goal

abbrev pub invariant-loop-pred : goal.invariant-loop-pred
invariant-loop-pred l = all_noted (map string_bytes l.places.items) (map string_bytes (drop l.pred-index l.preds)) ≡ distinct (map string_bytes l.preds)
