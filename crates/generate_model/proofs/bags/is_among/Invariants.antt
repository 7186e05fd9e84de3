use Rattle.std.proofs.Common.{◌≡◌, map, drop, string_bytes}
use Rattle.generate_model.specs.Bags.{is_among}
use Rattle.generate_model.proofs.bags.is_among.Given as goal

abbrev pub invariant-loop-other : goal.invariant-loop-other
invariant-loop-other l = is_among l.pred (map string_bytes (drop l.other-index l.preds)) ≡ is_among l.pred (map string_bytes l.preds)
