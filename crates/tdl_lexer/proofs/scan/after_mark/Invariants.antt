use Rattle.std.proofs.Common.{◌≡◌, length}
use denote.Text.{Utf8}
use denote.Shadow.{shadow}
use Rattle.std.specs.Str.{chars}
use Rattle.tdl_lexer.specs.Scan.{after_mark}
use Rattle.tdl_lexer.proofs.scan.after_mark.Given as goal

abbrev pub decreases-loop-after : goal.decreases-loop-after
decreases-loop-after l = length l.rest

abbrev pub invariant-loop-after : goal.invariant-loop-after
invariant-loop-after l = record { text : shadow (Utf8 l.rest); same : after_mark l.mark (chars l.rest) ≡ after_mark l.mark (chars l.text) }
