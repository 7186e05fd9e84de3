-- The report lines of a line that writes an MRS, each with its end.
use Rattle.std.specs.Prelude.{ℕ, Bool, true, false, List, [], ◌∷◌, ◌++◌, codes}
use Rattle.std.specs.Fmt.{decimal}
use Rattle.mrs_model.specs.Meanings.{Meaning}
use Rattle.mrs_text.specs.Written.{text_of}
use Rattle.item_reports.specs.Reports.{item_line, refused_line}

-- what is said of an MRS: by how many applications rules make which MRS of it, or that there are more than are allowed
pub data TransferAnswer : Type 0 where
  Rewritten : ℕ → Meaning → TransferAnswer
  OverBudget : TransferAnswer

-- `steps K`
abbrev pub count : ℕ → List ℕ
count steps = codes "steps " ++ decimal steps

-- two blanks and the text of an MRS
abbrev pub mrs_line : Meaning → List ℕ
mrs_line m = (codes "  " ++ text_of m) ++ 10 ∷ []

-- what is written of an answer: the number of applications and the MRS, or that it is refused
abbrev pub answer_lines : ℕ → TransferAnswer → List (List ℕ)
answer_lines number (Rewritten steps end) = item_line number (count steps) ∷ mrs_line end ∷ []
answer_lines number OverBudget = refused_line number (codes "budget") ∷ []

abbrev pub is_refused : TransferAnswer → Bool
is_refused (Rewritten steps end) = false
is_refused OverBudget = true
