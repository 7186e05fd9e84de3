use Rattle.std.proofs.Common.{◌≡◌, ◌+◌, ◌≤◌, length}
use denote.Text.{Utf8}
use denote.Shadow.{shadow}
use Rattle.std.specs.Str.{chars}
use Rattle.tdl_lexer.specs.Scan.{after_group}
use Rattle.tdl_lexer.proofs.scan.after_group.Given as goal

abbrev pub decreases-loop-c : goal.decreases-loop-c
decreases-loop-c l = length l.rest

abbrev pub invariant-loop-c : goal.invariant-loop-c
invariant-loop-c l = record { text : shadow (Utf8 l.rest); same : after_group l.depth (chars l.rest) ≡ after_group 0 (chars l.text); room : l.depth + length l.rest ≤ length l.text }
