use Rattle.std.proofs.Common.{◌≡◌, ◌++◌, drop, string_bytes, encode_utf8_all}
use Rattle.tdl_lexer.specs.Spelling.{lower}
use Rattle.grammar_settings.proofs.forms.name_of.Given as goal

abbrev pub invariant-loop-c : goal.invariant-loop-c
invariant-loop-c l = string_bytes l.out ++ encode_utf8_all (lower (drop l.c-index l.word)) ≡ encode_utf8_all (lower l.word)
