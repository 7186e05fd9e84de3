use Rattle.std.proofs.Common.{◌≡◌, ◌++◌, take}
use Rattle.std.specs.List.{flat_map}
use Rattle.fs_graph.specs.Text.{escaped}
use Rattle.fs_graph.proofs.text.put_escaped.Given as goal

abbrev pub invariant-loop-byte : goal.invariant-loop-byte
invariant-loop-byte l = l.into.items ≡ l.initial.into.items ++ flat_map escaped (take l.byte-index l.text)
