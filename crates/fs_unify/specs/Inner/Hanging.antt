-- What hangs in a graph on features that are cut off.
use Rattle.std.specs.Prelude.{ℕ, ◌≡◌, ◌<◌, ◌==◌, ◌||◌, ◌&&◌, Bool, true, false, if◌then◌else◌, List, length, map, take, slice_index_or}
use Rattle.std.specs.List.{filter, flat_map, range_with_len}
use Rattle.type_hierarchy.specs.declared.types.Ty.{Ty}
use Rattle.fs_model.specs.Claims.{Has}
use Rattle.fs_graph.specs.declared.graph.GraphArc.{GraphArc}
use Rattle.fs_graph.specs.GraphMap.{GraphMap, type_at, arcs_at}
use Rattle.fs_graph.specs.Inside.{row, graph_map}
use Rattle.fs_graph.specs.Orders.{ArePlan, IsOrdering}
use Rattle.fs_graph.specs.Inner.Renumbering.{starts_of}
use Rattle.fs_drawing.specs.Cutting.{is_one_of}

abbrev pub marked : List Bool → ℕ → Bool
marked marks n = slice_index_or marks n false

-- whether an arc with a feature is cut off, of the root or of another node
abbrev pub cuts : List ℕ → List ℕ → Bool → ℕ → Bool
cuts at_root anywhere is_root f = (is_root && is_one_of at_root f) || is_one_of anywhere f

-- some nodes hang, and some lead to one
abbrev pub keeps : List Bool → List Bool → ℕ → Bool
keeps hang lead n = marked hang n || marked lead n

-- Where an arc is cut off, or its node hangs, the node at its end hangs; and its node leads on where that one hangs or leads on.
pub record IsClosedArc (at_root anywhere : List ℕ) (hang lead : List Bool) (n : ℕ) (a : GraphArc) : Type 0 where
  pub cut : cuts at_root anywhere (n == 0) a.feat.0 ≡ true → marked hang a.to.0 ≡ true
  pub hangs : marked hang n ≡ true → marked hang a.to.0 ≡ true
  pub leads : keeps hang lead a.to.0 ≡ true → marked lead n ≡ true

-- so with all arcs of a graph's first nodes
abbrev pub AreClosed : List ℕ → List ℕ → List Bool → List Bool → GraphMap → ℕ → Type 0
AreClosed at_root anywhere hang lead g count = (n : ℕ) (a : GraphArc) → n < count → Has a (arcs_at g n) → IsClosedArc at_root anywhere hang lead n a

-- what is kept of a node: the arcs that lead to a node which hangs or leads on, and its type where it hangs
abbrev pub kept_row : List Bool → List Bool → List GraphArc → List GraphArc
kept_row hang lead arcs = filter (λ a. keeps hang lead a.to.0) arcs

abbrev pub kept_at : List Bool → List Bool → GraphMap → ℕ → List GraphArc
kept_at hang lead g n = kept_row hang lead (arcs_at g n)

abbrev pub kept_type : List Bool → GraphMap → ℕ → ℕ
kept_type hang g n = if marked hang n then type_at g n else 0

-- rows with what is kept of a graph's nodes
pub record IsKeptPlan (hang lead : List Bool) (g : GraphMap) (types : List Ty) (starts : List ℕ) (arcs : List GraphArc) : Type 0 where
  pub plan : ArePlan types starts arcs
  pub size_is : length types ≡ length g.types
  pub types_are : (n : ℕ) → n < length g.types → slice_index_or (map (λ t. t.0) types) n 0 ≡ kept_type hang g n
  pub rows_are : (n : ℕ) → n < length types → row starts arcs n ≡ kept_at hang lead g n

-- the rows of a graph's first nodes
pub record AreKeptRows (hang lead : List Bool) (g : GraphMap) (count : ℕ) (types : List Ty) (starts : List ℕ) (arcs : List GraphArc) : Type 0 where
  pub types_are : map (λ t. t.0) types ≡ map (kept_type hang g) (take count (range_with_len 0 (length g.types)))
  pub starts_are : starts ≡ map (starts_of (kept_at hang lead g) (range_with_len 0 (length g.types))) (range_with_len 0 count)
  pub arcs_are : arcs ≡ flat_map (kept_at hang lead g) (take count (range_with_len 0 (length g.types)))

-- a graph shows what is kept of another one
pub record IsKeptGraph (hang lead : List Bool) (g kept : GraphMap) : Type 0 where
  pub types : List Ty
  pub starts : List ℕ
  pub arcs : List GraphArc
  pub plan : IsKeptPlan hang lead g types starts arcs
  pub order : IsOrdering (graph_map types starts arcs) kept
