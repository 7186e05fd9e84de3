-- The answer to a line that writes an MRS: its scoped readings, or why there are none to tell.
use Rattle.std.specs.Prelude.{ℕ, true, List, [], ◌∷◌, Bool}
use Rattle.std.specs.Str.{chars, IsUtf8}
use Rattle.mrs_model.specs.Meanings.{Meaning}
use Rattle.mrs_reading.specs.Places.{Says, IsPlace}
use Rattle.scope_model.specs.Answers.{AreAll, IsOver, IsFirstOther}
use Rattle.item_reports.specs.Reports.{no_mrs_line}
use Rattle.scope_commands.specs.Reports.{ScopeAnswer, Readings, OtherRelation, TooMany, answer_lines, is_refused}

-- The answer to an MRS, at most `max` readings of which are asked for: all of them, in order; or a constraint isn't `qeq`; or, where all
-- are, there are more readings than that.
abbrev pub IsAnswerTo : Meaning → ℕ → ScopeAnswer → Type 0
IsAnswerTo m max (Readings ps) = AreAll m max ps
IsAnswerTo m max OtherRelation = (place : ℕ) × IsFirstOther m place
IsAnswerTo m max TooMany = IsOver m max

-- The answer to the line of a number: its report lines, each with its end, and whether it is refused. A line that writes no MRS is refused,
-- among them one that isn't UTF-8. Any other is answered by its MRS.
pub data IsAnswer (max number : ℕ) (line : List ℕ) : List (List ℕ) → Bool → Type 0 where
  no_mrs : (at : ℕ) → IsPlace line at → IsAnswer max number line (no_mrs_line number at ∷ []) true
  answered : (m : Meaning) (a : ScopeAnswer) → IsUtf8 line → Says m (chars line) → IsAnswerTo m max a → IsAnswer max number line (answer_lines number a) (is_refused a)
