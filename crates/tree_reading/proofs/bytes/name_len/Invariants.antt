use Rattle.std.proofs.Common.{◌≡◌, false, take}
use Rattle.std.specs.List.{All}
use Rattle.tree_reading.specs.Grammars.{ends_name}
use Rattle.tree_reading.proofs.bytes.name_len.Given as goal

abbrev pub invariant-loop-k : goal.invariant-loop-k
invariant-loop-k l = All (λ byte. ends_name byte ≡ false) (take l.k l.bytes)
