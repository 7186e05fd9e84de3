use Rattle.std.proofs.Common.{◌≡◌, map, drop, string_bytes}
use Rattle.std.specs.List.{list_all}
use Rattle.command_line.specs.Inner.Reading.{is_word}
use Rattle.command_line.proofs.words.are_words.Given as goal

abbrev pub invariant-loop-word : goal.invariant-loop-word
invariant-loop-word l = list_all is_word (map (λ w. string_bytes w) l.words) ≡ list_all is_word (drop l.word-index (map (λ w. string_bytes w) l.words))
