use Rattle.std.proofs.Common.{◌≡◌, ◌++◌, drop}
use Rattle.std.specs.String.{string_bytes}
use Rattle.mrs_reading.specs.Inner.Tables.{letters_of}
use Rattle.mrs_reading.proofs.table.sort_of.Given as goal

abbrev pub invariant-loop-byte : goal.invariant-loop-byte
invariant-loop-byte l = string_bytes l.sort ++ letters_of (drop l.byte-index l.byte-items) ≡ letters_of l.byte-items
