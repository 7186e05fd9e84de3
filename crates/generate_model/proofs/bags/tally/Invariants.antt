use Rattle.std.proofs.Common.{◌≡◌, map, take, string_bytes}
use Rattle.generate_model.specs.Bags.{tally}
use Rattle.generate_model.proofs.bags.tally.Given as goal

abbrev pub invariant-loop-place : goal.invariant-loop-place
invariant-loop-place l = l.counts.items ≡ tally (map string_bytes (take l.place-index l.places)) (map string_bytes l.preds)
