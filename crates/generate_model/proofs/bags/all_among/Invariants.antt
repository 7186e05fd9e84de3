use Rattle.std.proofs.Common.{◌≡◌, map, drop, string_bytes}
use Rattle.generate_model.specs.Bags.{all_among}
use Rattle.generate_model.proofs.bags.all_among.Given as goal

abbrev pub invariant-loop-pred : goal.invariant-loop-pred
invariant-loop-pred l = all_among (map string_bytes (drop l.pred-index l.preds)) (map string_bytes l.others) ≡ all_among (map string_bytes l.preds) (map string_bytes l.others)
