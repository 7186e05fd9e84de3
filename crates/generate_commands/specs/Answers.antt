-- The answer to a line that writes an MRS: the sentences that realize it, or the limit that is broken.
use Rattle.std.specs.Prelude.{ℕ, true, List, [], ◌∷◌, Bool}
use Rattle.std.specs.Str.{chars, IsUtf8}
use Rattle.tree_model.specs.Items.{Limits}
use Rattle.mrs_model.specs.Meanings.{Meaning}
use Rattle.mrs_places.specs.Paths.{Feature}
use Rattle.mrs_reading.specs.Places.{Says, IsPlace}
use Rattle.generate_model.specs.Contributions.{Input}
use Rattle.generate_model.specs.Sentences.{GenAnswer}
use Rattle.mrs_generate.specs.Answers.{IsSentenceAnswer}
use Rattle.engine.specs.Speeches.{Speech}
use Rattle.item_reports.specs.Reports.{no_mrs_line}
use Rattle.sentence_reports.specs.Reports.{answer_lines, is_refused}

-- a grammar as MRSs see it: as lines of words do, and where the relations stand that a rule contributes itself
pub record Speaker : Type 0 where
  pub speech : Speech
  pub c_cont_path : List Feature

-- what is asked of a line: the limits, the most rules of a lexical tree, and the most empty words of a sentence
pub record Bounds : Type 0 where
  pub limits : Limits
  pub lexical : ℕ
  pub empty : ℕ

-- what is generated from, where a line writes this MRS
abbrev pub input_of : Speaker → Meaning → Input
input_of s m = record { types = s.speech.semantics.types; paths = s.speech.semantics.paths; c_cont_path = s.c_cont_path; meaning = m }

-- the answer to the MRS
abbrev pub IsAnswerTo : Speaker → Bounds → Meaning → GenAnswer → Type 0
IsAnswerTo s b m a = IsSentenceAnswer s.speech.signs s.speech.words (input_of s m) b.lexical b.empty b.limits a

-- The answer to the line of a number: its report lines, each with its end, and whether it is refused. A line that writes no MRS is refused,
-- among them one that isn't UTF-8. Any other is answered by its MRS.
pub data IsAnswer (s : Speaker) (b : Bounds) (number : ℕ) (line : List ℕ) : List (List ℕ) → Bool → Type 0 where
  no_mrs : (at : ℕ) → IsPlace line at → IsAnswer s b number line (no_mrs_line number at ∷ []) true
  answered : (m : Meaning) (a : GenAnswer) → IsUtf8 line → Says m (chars line) → IsAnswerTo s b m a → IsAnswer s b number line (answer_lines number a) (is_refused a)
