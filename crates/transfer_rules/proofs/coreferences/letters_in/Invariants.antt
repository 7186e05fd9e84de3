use Rattle.std.proofs.Common.{◌≡◌, ◌++◌, drop}
use Rattle.std.specs.String.{string_bytes}
use Rattle.transfer_rules.specs.Forms.{letters_in}
use Rattle.transfer_rules.proofs.coreferences.letters_in.Given as goal

abbrev pub invariant-loop-byte : goal.invariant-loop-byte
invariant-loop-byte l = string_bytes l.letters ++ letters_in (drop l.byte-index l.byte-items) ≡ letters_in l.byte-items
