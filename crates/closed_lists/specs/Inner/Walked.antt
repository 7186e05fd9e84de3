-- How a closed list is walked; only private clauses cite it.
use Rattle.std.specs.Prelude.{ℕ, ◌≡◌, ◌≤◌, List, map, length, Option, None, Some}
use Rattle.type_hierarchy.specs.Table.{TypeTable}
use Rattle.fs_model.specs.Claims.{Path}
use Rattle.fs_graph.specs.declared.graph.Node.{Node}
use Rattle.fs_graph.specs.GraphMap.{GraphMap, type_at, node_at}
use Rattle.closed_lists.specs.Names.{ListTree}
use Rattle.closed_lists.specs.declared.lists.Step.{Step}
use Rattle.closed_lists.specs.declared.lists.Step.TheVariants.{End, Open, Item}
use Rattle.closed_lists.specs.Lists.{IsAtOrBelow, arc_named, Elements}

-- a path of so many features leads to a node
pub record IsReached (g : GraphMap) (n k : ℕ) : Type 0 where
  pub path : Path
  pub leads : node_at g path ≡ Some n
  pub long : k ≤ length path

-- what a node is to a list: its end, no list, or a cell
abbrev pub IsStep : TypeTable → ListTree → GraphMap → ℕ → Step → Type 0
IsStep types names g n End = IsAtOrBelow types (type_at g n) names.null
IsStep types names g n Open = (elements : List ℕ) → Elements types names g n elements → ⊥
IsStep types names g n (Item first rest) =
    (IsAtOrBelow types (type_at g n) names.null → ⊥) × IsAtOrBelow types (type_at g n) names.cons
    × (arc_named g n names.first ≡ Some first.0) × (arc_named g n names.rest ≡ Some rest.0)

-- the elements of the list at a node, where it is closed
abbrev pub AreElements : TypeTable → ListTree → GraphMap → ℕ → Option (List ℕ) → Type 0
AreElements types names g n None = (elements : List ℕ) → Elements types names g n elements → ⊥
AreElements types names g n (Some elements) = Elements types names g n elements

-- a path whose features the grammar has
abbrev pub IsKnownPath : List (Option ℕ) → Option Path → Type 0
IsKnownPath path None = (known : Path) → path ≡ map (λ f. Some f) known → ⊥
IsKnownPath path (Some known) = path ≡ map (λ f. Some f) known
