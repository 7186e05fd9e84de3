use Rattle.std.proofs.Common.{◌≡◌, ◌++◌, map, take}
use Rattle.std.specs.String.{string_bytes}
use Rattle.realized_trees.specs.TreeInner.{said, spaced}
use Rattle.realized_trees.proofs.text.put_words.Given as goal

abbrev pub invariant-loop-word : goal.invariant-loop-word
invariant-loop-word l = said l.line ≡ said l.initial.line ++ spaced (map string_bytes (take l.word-index l.words))
