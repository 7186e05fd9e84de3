use Rattle.std.proofs.Common.{◌≡◌, not, length}
use denote.Text.{Utf8}
use denote.Shadow.{shadow}
use Rattle.std.specs.Str.{chars}
use Rattle.tdl_lexer.specs.Characters.{is_newline}
use Rattle.tdl_lexer.specs.Scan.{past}
use Rattle.tdl_lexer.proofs.scan.after_line.Given as goal

abbrev pub decreases-loop-c : goal.decreases-loop-c
decreases-loop-c l = length l.rest

abbrev pub invariant-loop-c : goal.invariant-loop-c
invariant-loop-c l = record { text : shadow (Utf8 l.rest); same : past (λ c. not (is_newline c)) (chars l.rest) ≡ past (λ c. not (is_newline c)) (chars l.text) }
