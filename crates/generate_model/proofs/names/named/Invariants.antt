use Rattle.std.proofs.Common.{map, take, string_bytes}
use Rattle.std.specs.List.{AllZip}
use Rattle.generate_model.specs.Contributing.{IsNamed}
use Rattle.generate_model.proofs.names.named.Given as goal

abbrev pub invariant-loop-k : goal.invariant-loop-k
invariant-loop-k l = AllZip (IsNamed l.types) (map (λ t. t.0) (take l.k l.preds)) (map string_bytes l.names.items)
