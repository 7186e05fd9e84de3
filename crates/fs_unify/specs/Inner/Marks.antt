-- Marks of rules.
use Rattle.std.specs.Prelude.{ℕ, ◌≡◌, ◌<◌, Bool, false, List, length, slice_index_or}
use Rattle.std.specs.List.{list_any}
use Rattle.fs_model.specs.Claims.{Claim}
use Rattle.fs_closing.specs.Rules.{Grammar, no_rule}

-- for each of the first rules, whether it has one of these facts
pub record HaveMarks (g : Grammar) (owed : Claim → Bool) (count : ℕ) (marks : List Bool) : Type 0 where
  pub each : length marks ≡ count
  pub mark_is : (j : ℕ) → j < count → slice_index_or marks j false ≡ list_any owed (slice_index_or g.rules j no_rule).claims
