use Rattle.std.proofs.Common.{◌≡◌, take, false}
use Rattle.std.specs.List.{list_any}
use Rattle.relation_fit.specs.Tests.{is_under}
use Rattle.relation_fit.proofs.fitting.has_under.Given as goal

abbrev pub invariant-loop-k : goal.invariant-loop-k
invariant-loop-k l = list_any (λ u. is_under l.types u.0 l.t.0) (take l.k l.named) ≡ false
