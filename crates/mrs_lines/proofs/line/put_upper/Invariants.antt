use Rattle.std.proofs.Common.{◌≡◌, ◌++◌, take}
use Rattle.mrs_text.specs.Written.{upper}
use Rattle.mrs_lines.proofs.line.put_upper.Given as goal

abbrev pub invariant-loop-byte : goal.invariant-loop-byte
invariant-loop-byte l = l.into.items ≡ l.initial.into.items ++ upper (take l.byte-index l.byte-items)
