use Rattle.std.proofs.Common.{◌≡◌, drop}
use denote.Text.{Utf8}
use denote.Shadow.{shadow}
use Rattle.std.specs.Str.{chars}
use Rattle.tdl_lexer.specs.Scan.{after_front}
use Rattle.tdl_lexer.proofs.scan.after_front.Given as goal

abbrev pub invariant-loop-m : goal.invariant-loop-m
invariant-loop-m l = record { text : shadow (Utf8 l.rest); same : after_front (drop l.m-index l.mark) (chars l.rest) ≡ after_front l.mark (chars l.text) }
