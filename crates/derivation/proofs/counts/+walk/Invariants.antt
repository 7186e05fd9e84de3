use Rattle.std.proofs.Common.{◌+◌, ◌*◌}
use Rattle.derivation.proofs.Weights.{weight_left, turn}
use Rattle.derivation.proofs.counts.+walk.Given as goal

abbrev pub decreases-owe : goal.decreases-owe
decreases-owe l = 3 * (weight_left l.left.now + weight_left l.other.now) + turn l.left.now

abbrev pub decreases-pay : goal.decreases-pay
decreases-pay l = 3 * (weight_left l.left.now + weight_left l.other.now) + 2
