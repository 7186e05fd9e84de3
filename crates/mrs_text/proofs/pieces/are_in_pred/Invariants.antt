use Rattle.std.proofs.Common.{◌≡◌, length}
use denote.Text.{Utf8}
use denote.Shadow.{shadow}
use Rattle.std.specs.List.{list_all}
use Rattle.std.specs.Str.{chars}
use Rattle.mrs_text.specs.Signs.{in_pred}
use Rattle.mrs_text.proofs.pieces.are_in_pred.Given as goal

abbrev pub decreases-loop-c : goal.decreases-loop-c
decreases-loop-c l = length l.rest

abbrev pub invariant-loop-c : goal.invariant-loop-c
invariant-loop-c l = record { text : shadow (Utf8 l.rest); same : list_all in_pred (chars l.rest) ≡ list_all in_pred (chars l.text) }
