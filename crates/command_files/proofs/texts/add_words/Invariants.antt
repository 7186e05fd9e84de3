use Rattle.std.proofs.Common.{◌≡◌, ◌++◌, map, take}
use Rattle.command_files.specs.FaultTexts.{spaced}
use Rattle.command_files.proofs.texts.add_words.Given as goal

abbrev pub invariant-loop-word : goal.invariant-loop-word
invariant-loop-word l = l.line.items ≡ l.fn.line.items ++ spaced (map (λ w. w.now) (take l.word-index l.words))
