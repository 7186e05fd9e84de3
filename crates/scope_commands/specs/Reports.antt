-- The report lines of a line that writes an MRS, each with its end.
use Rattle.std.specs.Prelude.{ℕ, Bool, true, false, List, [], ◌∷◌, ◌++◌, length, map, codes}
use Rattle.std.specs.Fmt.{decimal}
use Rattle.item_reports.specs.Reports.{item_line, refused_line}
use Rattle.scope_model.specs.Readings.{Plugged}
use Rattle.scope_model.specs.Answers.{reading_line}

-- what is said of an MRS: its readings; that a constraint isn't `qeq`; or that there are more readings than are asked for
pub data ScopeAnswer : Type 0 where
  Readings : List Plugged → ScopeAnswer
  OtherRelation : ScopeAnswer
  TooMany : ScopeAnswer

-- `scopes K`
abbrev pub count : ℕ → List ℕ
count readings = codes "scopes " ++ decimal readings

abbrev pub readings_lines : ℕ → List Plugged → List (List ℕ)
readings_lines number ps = item_line number (count (length ps)) ∷ map reading_line ps

-- what is written of an answer: why the MRS is refused, or the number of readings, and the readings
abbrev pub answer_lines : ℕ → ScopeAnswer → List (List ℕ)
answer_lines number (Readings ps) = readings_lines number ps
answer_lines number OtherRelation = refused_line number (codes "relation") ∷ []
answer_lines number TooMany = refused_line number (codes "readings") ∷ []

abbrev pub is_refused : ScopeAnswer → Bool
is_refused (Readings ps) = false
is_refused other = true
