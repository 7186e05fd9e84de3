-- Words between one function and the next; no public clause cites them.
use Rattle.std.specs.Prelude.{ℕ, ◌≡◌, Bool, List}
use Rattle.mrs_model.specs.Meanings.{Meaning}
use Rattle.scope_commands.specs.Reports.{ScopeAnswer, answer_lines, is_refused}
use Rattle.scope_commands.specs.Answers.{IsAnswerTo}

-- the lines of the answer to an MRS
pub record IsReportOn (max number : ℕ) (m : Meaning) (lines : List (List ℕ)) (refused : Bool) : Type 0 where
  pub answer : ScopeAnswer
  pub is : IsAnswerTo m max answer
  pub lines_are : lines ≡ answer_lines number answer
  pub refused_is : refused ≡ is_refused answer
