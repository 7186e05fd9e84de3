-- The answer to a line that writes an MRS: what rules make of it.
use Rattle.std.specs.Prelude.{ℕ, true, List, [], ◌∷◌, Bool}
use Rattle.std.specs.Str.{chars, IsUtf8}
use Rattle.mrs_model.specs.Meanings.{Meaning}
use Rattle.mrs_reading.specs.Places.{Says, IsPlace}
use Rattle.transfer_model.specs.Runs.{IsResult, HasNoResult}
use Rattle.item_reports.specs.Reports.{no_mrs_line}
use Rattle.transfer_commands.specs.Rewriters.{Rewriter, allowed}
use Rattle.transfer_commands.specs.Reports.{TransferAnswer, Rewritten, OverBudget, answer_lines, is_refused}

-- The answer to an MRS: the result of the rules and the number of applications, or that there is none, since there are more than are allowed.
abbrev pub IsAnswerTo : Rewriter → Meaning → TransferAnswer → Type 0
IsAnswerTo w m (Rewritten steps end) = IsResult (allowed w) w.rules m steps end
IsAnswerTo w m OverBudget = HasNoResult (allowed w) w.rules m

-- The answer to the line of a number: its report lines, each with its end, and whether it is refused. A line that writes no MRS is refused,
-- among them one that isn't UTF-8. Any other is answered by its MRS.
pub data IsAnswer (w : Rewriter) (number : ℕ) (line : List ℕ) : List (List ℕ) → Bool → Type 0 where
  no_mrs : (at : ℕ) → IsPlace line at → IsAnswer w number line (no_mrs_line number at ∷ []) true
  answered : (m : Meaning) (a : TransferAnswer) → IsUtf8 line → Says m (chars line) → IsAnswerTo w m a → IsAnswer w number line (answer_lines number a) (is_refused a)
