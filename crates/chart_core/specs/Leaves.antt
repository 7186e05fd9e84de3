-- Leaves in plain values.
use Rattle.std.specs.Prelude.{Option, Some, None, List, [], ◌∷◌}
use Rattle.chart_model.specs.Calculus.{Calculus}
use Rattle.chart_model.specs.Tuples.{on_list}
use Rattle.chart_model.specs.Chart as model
use Rattle.chart_core.specs.declared.Leaf.{Leaf}
use Rattle.chart_core.specs.declared.Row.{Row}
use Rattle.chart_core.specs.declared.RowKind.{RowKind}
use Rattle.chart_core.specs.declared.RowKind.TheVariants as kinds

module _ {X T C W B : Type 0} where
  -- the leaf that a row of these parts is, if it is one
  abbrev pub leaf_in : RowKind → C → Option T → Option (Leaf X T C W B)
  leaf_in (kinds.Leaf name) cover None = None
  leaf_in (kinds.Leaf name) cover (Some shape) = Some (record { cover = cover; shape = shape; name = name })
  leaf_in (kinds.Partial rule) cover shape = None
  leaf_in (kinds.Whole rule) cover shape = None

  -- the leaves among rows, in order
  abbrev pub leaf_rows : List (Row X T C W B) → List (Leaf X T C W B)
  leaf_rows [] = []
  leaf_rows (row ∷ rows) = on_list (leaf_in row.kind row.cover row.shape) (leaf_rows rows)

module _ {X T C W B M : Type 0} where
  abbrev pub leaf_seen : (T → M) → Leaf X T C W B → model.Leaf M C
  leaf_seen meaning leaf = record { cover = leaf.cover; shape = meaning leaf.shape; name = leaf.name }

  -- the shape of the leaf belongs, and its cover may stand in a chart
  abbrev pub LeafBelongs : Calculus M C → (T → Type 0) → Leaf X T C W B → Type 0
  LeafBelongs k belongs leaf = belongs leaf.shape × k.proper leaf.cover
