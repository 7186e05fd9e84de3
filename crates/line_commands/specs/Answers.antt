-- The answer to a line that is parsed: the trees that a grammar licenses for it, or the limit that it breaks.
use Rattle.std.specs.Prelude.{ℕ, ◌≡◌, Bool, true, false, List}
use Rattle.tree_model.specs.Items.{Limits, Answer}
use Rattle.tree_model.specs.Answers.{IsParseAnswer}
use Rattle.morph_analysis.specs.Lattices.{LatticeTree}
use Rattle.lexical_items.specs.Seen.{lattice_seen}
use Rattle.mrs_lines.specs.Lines.{AreAnswerLines}
use Rattle.item_reports.specs.Reports.{answer_lines, is_refused}
use Rattle.engine.specs.Speeches.{Speech}
use Rattle.line_commands.specs.Lines.{IsLineAnswer}

-- what is asked of a line: the limits, the most rules of a lexical tree, whether the line writes a lattice, and whether each tree is
-- followed by its MRS
pub record Asked : Type 0 where
  pub limits : Limits
  pub lexical : ℕ
  pub lattice : Bool
  pub mrs : Bool

-- What is written of an answer. Where MRSs are asked for, the line of each tree is followed by that of its MRS.
abbrev pub AreLinesOf : Bool → Speech → Bool → ℕ → Answer → List (List ℕ) → Type 0
AreLinesOf false speech nodes number answer lines = lines ≡ answer_lines speech.names nodes number answer
AreLinesOf true speech nodes number answer lines = AreAnswerLines speech.signs speech.semantics speech.names nodes number answer lines

-- What is written of the trees of a lattice, in the line of a number; it is refused where a limit is broken.
pub record IsTreesReport (speech : Speech) (asked : Asked) (number : ℕ) (lattice : LatticeTree) (lines : List (List ℕ)) (refused : Bool) : Type 0 where
  pub answer : Answer
  pub is : IsParseAnswer speech.signs speech.words (lattice_seen lattice) asked.lexical asked.limits answer
  pub lines_are : AreLinesOf asked.mrs speech asked.lattice number answer lines
  pub refused_is : refused ≡ is_refused answer

-- The answer to the line of a number: its report lines, each with its end, and whether it is refused.
abbrev pub IsAnswer : Speech → Asked → ℕ → List ℕ → List (List ℕ) → Bool → Type 0
IsAnswer speech asked number = IsLineAnswer asked.lattice (IsTreesReport speech asked number) number
