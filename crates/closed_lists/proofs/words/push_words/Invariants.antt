use Rattle.std.proofs.Common.{◌≡◌, ◌++◌, map, drop}
use Rattle.std.specs.Prelude.{encode_utf8_all}
use Rattle.closed_lists.specs.Names.{words_in}
use Rattle.closed_lists.proofs.words.push_words.Given as goal

abbrev pub invariant-loop-word : goal.invariant-loop-word
invariant-loop-word l = words_in l.out ++ map (λ w. encode_utf8_all w.now) (drop l.word-index l.words) ≡ words_in l.initial.out ++ map (λ w. encode_utf8_all w.now) l.words
