use Rattle.std.proofs.Common.{◌≡◌, drop}
use Rattle.std.specs.List.{list_all}
use Rattle.grammar_settings.specs.Forms.{is_word}
use Rattle.grammar_settings.specs.Kept.{words_in}
use Rattle.grammar_settings.proofs.forms.are_words.Given as goal

abbrev pub invariant-loop-word : goal.invariant-loop-word
invariant-loop-word l = list_all is_word (words_in (drop l.word-index l.words)) ≡ list_all is_word (words_in l.words)
