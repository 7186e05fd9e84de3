use Rattle.std.proofs.Common.{◌<◌, length}
use Rattle.mrs_model.proofs.order.next_place.Given as goal

abbrev pub invariant-loop-place : goal.invariant-loop-place
invariant-loop-place l = l.best < length l.items
