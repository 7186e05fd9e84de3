use Rattle.std.proofs.Common.{◌≡◌, ◌++◌, ◌<◌, ◌^◌, ℕ, Some, drop}
use Rattle.tree_reading.specs.Inner.Stops.{spelling}
use Rattle.tree_reading.proofs.numbers.digits_of.Given as goal

abbrev pub invariant-loop-k : goal.invariant-loop-k
invariant-loop-k l = (l.bytes ≡ spelling l.number ++ drop l.k l.bytes) × ((n : ℕ) → l.number ≡ Some n → n < 2 ^ 32)
