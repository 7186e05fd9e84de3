use Rattle.std.proofs.Common.{◌≡◌, drop}
use Rattle.std.specs.List.{list_all}
use Rattle.tdl_lexer.specs.Characters.{is_name}
use Rattle.grammar_settings.proofs.forms.is_word.Given as goal

abbrev pub invariant-loop-c : goal.invariant-loop-c
invariant-loop-c l = list_all is_name (drop l.c-index l.word) ≡ list_all is_name l.word
