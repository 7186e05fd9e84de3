use Rattle.std.proofs.Common.{◌≡◌, false, take}
use Rattle.std.specs.List.{All}
use Rattle.tree_reading.specs.Inner.Stops.{ends_run}
use Rattle.tree_reading.proofs.bytes.run_len.Given as goal

abbrev pub invariant-loop-k : goal.invariant-loop-k
invariant-loop-k l = All (λ byte. ends_run byte ≡ false) (take l.k l.bytes)
