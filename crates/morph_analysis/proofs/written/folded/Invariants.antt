use Rattle.std.proofs.Common.{◌≡◌, take, string_bytes}
use Rattle.std.specs.Prelude.{encode_utf8_all}
use Rattle.morph_analysis.proofs.written.folded.Given as goal

abbrev pub invariant-loop-c : goal.invariant-loop-c
invariant-loop-c l = string_bytes l.word ≡ encode_utf8_all (take l.c-index l.letters)
