-- Live hosts with their keys, and what is told of them.
use Rattle.std.specs.Prelude.{ℕ, ◌≡◌, ◌↔◌, IsTrue, List, Some, All, map, slice_get}
use Rattle.chart_model.specs.Calculus.{Calculus}
use Rattle.chart_model.specs.declared.span.Span.{Span}
use Rattle.chart_model.specs.Classes.{Class}
use Rattle.chart_model.specs.Finished.{IsComplete}
use Rattle.chart_model.specs.Limits.{IsLimitAnswer, Within}
use Rattle.chart_model.specs.Chart as model
use Rattle.chart_core.specs.declared.ended.Finished.{Finished}
use Rattle.chart_core.specs.declared.Row.{Row}
use Rattle.chart_core.specs.Kept.{core_of, rows_in}
use Rattle.chart_core.specs.CoreView.{chart_of}
use Rattle.chart_core.specs.View as view
use Rattle.packed_forests.specs.Rows.{AreClassRows, RowsAreMakers, makers_of}
use Rattle.derivation.specs.Trees.{Derivation}
use Rattle.derivation.specs.Views.{derivation_of}
use Rattle.fs_model.specs.Claims.{Path}
use Rattle.fs_graph.specs.GraphMap.{reader_of, type_at}
use Rattle.tree_model.specs.Structures.{Structure}
use Rattle.tree_model.specs.Views.{view}
use Rattle.tree_model.specs.Signs.{Signs}
use Rattle.tree_model.specs.Trees.{IsRooted}
use Rattle.lexical_items.specs.declared.lexeme.LexTree.{LexTree}
use Rattle.line_charts.specs.Keys.{Key}
use Rattle.line_charts.specs.Charts.{Keyed, ToldClass}
use Rattle.line_charts.specs.Inner.Keyed.{key_seen}
use Rattle.line_charts.specs.Inner.Stages.{rule_place, IsTellableAt, AreRowMakers}
use Rattle.line_charts.specs.declared.hosts.Host.{Host}
use Rattle.line_charts.specs.declared.packing.Packed.{Packed}

-- the class of a key
abbrev pub class_in : List Path → Key → Class Structure Span
class_in paths key = record { cover = record { from = key.from; to = key.to }; level = key.level; shape = view paths (reader_of key.graph) }

abbrev pub keyed_in : List Path → Key → Keyed
keyed_in paths key = record { class = class_in paths key; key = key }

abbrev pub key_of : Host → Key
key_of h = key_seen h.key

abbrev pub row_of : Host → ℕ
row_of h = h.rows.host.0

abbrev pub class_of_host : List Path → Host → Class Structure Span
class_of_host paths h = class_in paths (key_of h)

abbrev pub trees_in : {T : Type 0} → List (LexTree T) → List Derivation
trees_in trees = map (λ x. derivation_of x.tree) trees

module _ {X T C W B : Type 0} (f : Finished X T C W B) where
  -- a row with a shape
  pub record HasShape (i : ℕ) : Type 0 where
    pub row : Row X T C W B
    pub at : slice_get (rows_in (core_of f)) i ≡ Some row
    pub shape : T
    pub is : row.shape ≡ Some shape

-- a chart over leaves within the limits with its classes, each with the rows that make its members
pub record IsPackedChart {X T C W B M : Type 0} (k : Calculus M C) (meaning : T → M) (belongs : T → Type 0) (limits : model.Limits) (leaves : List (model.Leaf M C)) (p : Packed X T C W B) : Type 0 where
  pub complete : IsComplete k limits leaves (chart_of meaning (core_of p.finished))
  pub within : IsLimitAnswer k limits leaves Within
  pub belonging : All (view.Belongs k belongs) (rows_in (core_of p.finished))
  pub classes : AreClassRows k limits leaves (chart_of meaning (core_of p.finished)) p.classes.items
  pub makers : RowsAreMakers k

-- what is told of a host, with the makers of its rows
pub record IsToldHost {X T C W B : Type 0} (g : Signs) (rows : List (Row X T C W B)) (trees : List Derivation) (table : List ℕ) (h : Host) (told : ToldClass) : Type 0 where
  pub from : told.from ≡ (key_of h).from
  pub to : told.to ≡ (key_of h).to
  pub typed : told.ty ≡ type_at (key_of h).graph 0
  pub rooted : IsTrue told.rooted ↔ IsRooted g (view g.paths (reader_of (key_of h).graph))
  pub makers : AreRowMakers rows trees (rule_place g) table (makers_of h.rows) told.makers

-- all rows that make members of a host's class can be told
abbrev pub IsHostTellable : {X T C W B : Type 0} → List (Row X T C W B) → (trees rules size : ℕ) → Host → Type 0
IsHostTellable rows trees rules size h = All (λ r. IsTellableAt rows trees rules size r.0) h.rows.makers.items
