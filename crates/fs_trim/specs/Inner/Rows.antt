-- The arcs that a cut leaves, row by row.
use Rattle.std.specs.Prelude.{ℕ, ◌≡◌, ◌<◌, ◌==◌, Bool, not, if◌then◌else◌, List, [], ◌∷◌, map, take, length}
use Rattle.std.specs.List.{filter, flat_map, range_with_len}
use Rattle.type_hierarchy.specs.declared.types.Ty.{Ty}
use Rattle.fs_graph.specs.declared.graph.GraphArc.{GraphArc}
use Rattle.fs_graph.specs.GraphMap.{GraphMap, arcs_at}
use Rattle.fs_graph.specs.Inside.{row}
use Rattle.fs_graph.specs.Orders.{ArePlan}
use Rattle.fs_graph.specs.Inner.Renumbering.{starts_of}
use Rattle.tree_model.specs.Cuts.{Cut, has_feature, is_kept}

-- whether the cut leaves an arc with this feature, of the root or of another node
abbrev pub leaves : Cut → Bool → ℕ → Bool
leaves cut is_root f = if is_root then is_kept cut (f ∷ []) else not (has_feature cut.anywhere f)

abbrev pub left : Cut → Bool → List GraphArc → List GraphArc
left cut is_root arcs = filter (λ a. leaves cut is_root a.feat.0) arcs

-- the arcs of a node that are left
abbrev pub left_at : Cut → GraphMap → ℕ → List GraphArc
left_at cut g n = left cut (n == 0) (arcs_at g n)

-- rows with a graph's types and the arcs that are left
pub record IsCutPlan (cut : Cut) (g : GraphMap) (types : List Ty) (starts : List ℕ) (arcs : List GraphArc) : Type 0 where
  pub plan : ArePlan types starts arcs
  pub types_are : map (λ t. t.0) types ≡ g.types
  pub rows_are : (n : ℕ) → n < length types → row starts arcs n ≡ left_at cut g n

-- the rows of a graph's first nodes
pub record AreLeft (cut : Cut) (g : GraphMap) (count : ℕ) (types : List Ty) (starts : List ℕ) (arcs : List GraphArc) : Type 0 where
  pub types_are : map (λ t. t.0) types ≡ take count g.types
  pub starts_are : starts ≡ map (starts_of (left_at cut g) (range_with_len 0 (length g.types))) (range_with_len 0 count)
  pub arcs_are : arcs ≡ flat_map (left_at cut g) (take count (range_with_len 0 (length g.types)))
