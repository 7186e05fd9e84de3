use Rattle.std.proofs.Common.{◌≡◌, take}
use Rattle.tree_reading.proofs.near.shared.Given as goal

abbrev pub invariant-loop-k : goal.invariant-loop-k
invariant-loop-k l = take l.k l.name ≡ take l.k l.other
