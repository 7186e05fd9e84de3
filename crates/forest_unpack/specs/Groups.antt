-- The rows of groups, as they are told of a chart's rows.
use Rattle.std.specs.Prelude.{◌≡◌, ℕ, if◌then◌else◌, Option, List, [], ◌∷◌}
use Rattle.chart_model.specs.Calculus.{Along}
use Rattle.chart_model.specs.At.{At}
use Rattle.chart_model.specs.Chart.{all_free}
use Rattle.chart_model.specs.Grown.{LeadsTo}
use Rattle.chart_core.specs.declared.Row.{Row}
use Rattle.chart_core.specs.declared.RowKind.{RowKind}
use Rattle.chart_core.specs.declared.RowKind.TheVariants as kinds
use Rattle.chart_core.specs.View.{into_of, list_of}
use Rattle.tree_model.specs.Lists as model

abbrev pub told_of_kind : List (Option ℕ) → List ℕ → RowKind → List model.GroupRow
told_of_kind into ds (kinds.Leaf name) = model.a_leaf name ∷ []
told_of_kind into ds (kinds.Partial rule) = []
told_of_kind into ds (kinds.Whole rule) = if all_free into ds then model.a_whole rule ds ∷ [] else []

module _ {X T C W B : Type 0} where
  -- what is told of a row, if it counts: a leaf, or a whole row whose daughters are live hosts
  abbrev pub told_by : List (Option ℕ) → Row X T C W B → List model.GroupRow
  told_by into row = told_of_kind into (list_of row.daughters) row.kind

  -- row j counts, and this is told of it
  pub record TellsAt (rows : List (Row X T C W B)) (j : ℕ) (told : model.GroupRow) : Type 0 where
    pub row : Row X T C W B
    pub at : At rows j row
    pub told_is : told_by (into_of rows) row ≡ told ∷ []

  -- exactly these are told in the group of h, each once, in some order
  pub record IsTold (rows : List (Row X T C W B)) (h : ℕ) (told : List model.GroupRow) : Type 0 where
    pub numbers : List ℕ
    pub each : (j : ℕ) → model.Has j numbers → LeadsTo (into_of rows) j h
    pub all : (j : ℕ) (g : model.GroupRow) → TellsAt rows j g → LeadsTo (into_of rows) j h → model.Has j numbers
    pub differ : model.AllDiffer numbers
    pub along : Along (TellsAt rows) numbers told
