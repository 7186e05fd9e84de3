use Rattle.std.proofs.Common.{◌≡◌, drop, map}
use Rattle.transfer_rules.specs.Features.{among}
use Rattle.transfer_rules.proofs.coreferences.number_in.Given as goal

abbrev pub invariant-loop-at : goal.invariant-loop-at
invariant-loop-at l = among (map (λ n. n.now) (drop l.at l.names)) l.name ≡ among (map (λ n. n.now) l.names) l.name
