use Rattle.std.proofs.Common.{◌≡◌, string_bytes, encode_utf8_all, ◌++◌, length}
use denote.Text.{Utf8}
use denote.Shadow.{shadow}
use Rattle.std.specs.Str.{chars}
use Rattle.tdl_lexer.specs.Spelling.{lower}
use Rattle.tdl_lexer.proofs.values.lowered.Given as goal

abbrev pub invariant-loop-c : goal.invariant-loop-c
invariant-loop-c l = record {
  text : shadow (Utf8 l.rest);
  same : string_bytes l.out ++ encode_utf8_all (lower (chars l.rest)) ≡ encode_utf8_all (lower (chars l.text));
}

abbrev pub decreases-loop-c : goal.decreases-loop-c
decreases-loop-c l = length l.rest
