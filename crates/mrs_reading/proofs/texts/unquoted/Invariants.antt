use Rattle.std.proofs.Common.{◌≡◌, ◌++◌, false, length}
use denote.Text.{Utf8}
use denote.Shadow.{shadow}
use Rattle.std.specs.String.{string_bytes}
use Rattle.std.specs.Str.{chars, encode_utf8_all}
use Rattle.mrs_reading.specs.Meaning.{without_escapes}
use Rattle.mrs_reading.proofs.texts.unquoted.Given as goal

abbrev pub invariant-loop-c : goal.invariant-loop-c
invariant-loop-c l = record { text : shadow (Utf8 l.rest); same : string_bytes l.plain ++ encode_utf8_all (without_escapes l.escaped (chars l.rest)) ≡ encode_utf8_all (without_escapes false (chars l.text)) }

abbrev pub decreases-loop-c : goal.decreases-loop-c
decreases-loop-c l = length l.rest
