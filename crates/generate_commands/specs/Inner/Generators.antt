-- What a generator says.
use Rattle.std.specs.Prelude.{ℕ, ◌≡◌, Bool, List}
use Rattle.mrs_model.specs.Meanings.{Meaning}
use Rattle.generate_model.specs.Sentences.{GenAnswer}
use Rattle.generate_commands.specs.Answers.{IsAnswerTo}
use Rattle.sentence_reports.specs.Reports.{answer_lines, is_refused}
use Rattle.generate_commands.specs.Contributing.{speaker_of, bounds_of}
use Rattle.generate_commands.specs.declared.answering.Generator.{Generator}

-- the lines of the answer to an MRS
pub record IsReportOf (p : Generator) (number : ℕ) (m : Meaning) (lines : List (List ℕ)) (refused : Bool) : Type 0 where
  pub answer : GenAnswer
  pub is : IsAnswerTo (speaker_of p) (bounds_of p) m answer
  pub lines_are : lines ≡ answer_lines number answer
  pub refused_is : refused ≡ is_refused answer
