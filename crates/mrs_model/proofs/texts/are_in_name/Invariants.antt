use Rattle.std.proofs.Common.{◌≡◌, ◌↔◌, ◌||◌, false, length}
use denote.Text.{Utf8}
use denote.Shadow.{shadow}
use Rattle.std.specs.List.{All}
use Rattle.std.specs.Str.{chars}
use Rattle.mrs_model.specs.Texts.{ends_name, is_capital}
use Rattle.mrs_model.proofs.texts.are_in_name.Given as goal

abbrev pub decreases-loop-c : goal.decreases-loop-c
decreases-loop-c l = length l.rest

abbrev pub invariant-loop-c : goal.invariant-loop-c
invariant-loop-c l = record { text : shadow (Utf8 l.rest); same : All (λ c. (ends_name c || is_capital c) ≡ false) (chars l.rest) ↔ All (λ c. (ends_name c || is_capital c) ≡ false) (chars l.text) }
