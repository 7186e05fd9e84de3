-- Equal shapes and covers, taken from rows.
use Rattle.std.specs.Prelude.{◌≡◌, ℕ, Option, Some, None, List, slice_get}
use Rattle.chart_model.specs.declared.covers.Part.{Part}
use Rattle.chart_model.specs.declared.covers.Tuple.{Tuple}
use Rattle.chart_core.specs.declared.Row.{Row}
use Rattle.chart_core.specs.declared.RowId.{RowId}
use Rattle.chart_core.specs.declared.Daughters.{Daughters}

module _ {X T C W B : Type 0} where
  -- the row at this number is no partial
  abbrev pub IsWholeAt : List (Row X T C W B) → ℕ → Type 0
  IsWholeAt rows d = (row : Row X T C W B) → slice_get rows d ≡ Some row → row.shape ≡ None → ⊥

module _ {X T C W B M : Type 0} (belongs : T → Type 0) (meaning : T → M) (rows : List (Row X T C W B)) where
  -- a shape that belongs, equal to that of the row at this number
  pub record IsCopy (d : ℕ) (copy : T) : Type 0 where
    pub row : Row X T C W B
    pub at : slice_get rows d ≡ Some row
    pub shape : T
    pub shape_is : row.shape ≡ Some shape
    pub same : meaning copy ≡ meaning shape
    pub belongs_too : belongs copy

  abbrev pub IsPartOf : Option RowId → Option (Part T C) → Type 0
  IsPartOf None part = part ≡ None
  IsPartOf (Some id) None = ⊥
  IsPartOf (Some id) (Some part) = (copy : IsCopy id.0 part.shape) × (part.cover ≡ copy.row.cover)

  -- the parts of the tuple are those of the daughters, place by place
  pub record ArePartsOf (daughters : Daughters) (parts : Tuple T C) : Type 0 where
    pub count : parts.count ≡ daughters.count
    pub a : IsPartOf daughters.a parts.a
    pub b : IsPartOf daughters.b parts.b
    pub c : IsPartOf daughters.c parts.c
    pub d : IsPartOf daughters.d parts.d
