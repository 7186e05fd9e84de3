use Rattle.std.proofs.Common.{ℕ, Option, map, drop}
use Rattle.generate_model.specs.Settling.{FirstSettled}
use Rattle.generate_model.proofs.settled.first_settled.Given as goal

abbrev pub invariant-loop-k : goal.invariant-loop-k
invariant-loop-k l = (o : Option ℕ) → FirstSettled l.types (map (λ t. t.0) (drop l.k l.preds)) o → FirstSettled l.types (map (λ t. t.0) l.preds) o
