use Rattle.std.proofs.Common.{◌≡◌, take}
use Rattle.grammar_files.specs.FileNames.{has_ending}
use Rattle.grammar_files.proofs.file_names.has_ending.Given as goal

abbrev pub invariant-loop-byte : goal.invariant-loop-byte
invariant-loop-byte l = l.ending ≡ has_ending (take l.byte-index l.name)
