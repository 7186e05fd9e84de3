use Rattle.std.proofs.Common.{◌≡◌, length}
use denote.Text.{Utf8}
use denote.Shadow.{shadow}
use Rattle.std.specs.Str.{chars}
use Rattle.tdl_lexer.specs.Characters.{is_name}
use Rattle.tdl_lexer.specs.Scan.{past}
use Rattle.tdl_lexer.proofs.scan.after_names.Given as goal

abbrev pub decreases-loop-c : goal.decreases-loop-c
decreases-loop-c l = length l.rest

abbrev pub invariant-loop-c : goal.invariant-loop-c
invariant-loop-c l = record { text : shadow (Utf8 l.rest); same : past is_name (chars l.rest) ≡ past is_name (chars l.text) }
