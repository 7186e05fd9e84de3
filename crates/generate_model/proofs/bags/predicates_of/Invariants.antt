use Rattle.std.proofs.Common.{◌≡◌, map, take, string_bytes}
use Rattle.mrs_model.specs.Views.{predication_of}
use Rattle.generate_model.proofs.bags.predicates_of.Given as goal

abbrev pub invariant-loop-ep : goal.invariant-loop-ep
invariant-loop-ep l = map string_bytes l.preds.items ≡ map (λ e. e.pred) (map predication_of (take l.ep-index l.ep-items))
