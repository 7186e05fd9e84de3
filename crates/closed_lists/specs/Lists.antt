-- Closed lists in structures (Copestake 2002: lists as types).
use Rattle.std.specs.Prelude.{ℕ, ◌≡◌, true, List, [], ◌∷◌, map, Option, None, Some}
use Rattle.type_hierarchy.specs.Table.{TypeTable, is_below}
use Rattle.fs_model.specs.Claims.{Path}
pub use Rattle.fs_graph.specs.GraphMap.{arc_named}
use Rattle.fs_graph.specs.GraphMap.{GraphMap, type_at, node_at}
use Rattle.closed_lists.specs.Names.{ListTree}

-- a type is at or below a type that the grammar has
abbrev pub IsAtOrBelow : TypeTable → ℕ → Option ℕ → Type 0
IsAtOrBelow types t None = ⊥
IsAtOrBelow types t (Some s) = is_below types t s ≡ true

-- The elements of a closed list that begins at a node. A node at or below the null type ends it; any other is at or below the cons type, with a first element and a rest.
pub data Elements (types : TypeTable) (names : ListTree) (g : GraphMap) : ℕ → List ℕ → Type 0 where
  ends : (n : ℕ) → IsAtOrBelow types (type_at g n) names.null → Elements types names g n []
  goes_on : (n first rest : ℕ) (more : List ℕ) → (IsAtOrBelow types (type_at g n) names.null → ⊥) → IsAtOrBelow types (type_at g n) names.cons
      → arc_named g n names.first ≡ Some first → arc_named g n names.rest ≡ Some rest → Elements types names g rest more → Elements types names g n (first ∷ more)

-- at a path, whose features the grammar has, stands a closed list with these elements
pub record HasList (types : TypeTable) (names : ListTree) (g : GraphMap) (path : List (Option ℕ)) (elements : List ℕ) : Type 0 where
  pub known : Path
  pub features : path ≡ map (λ f. Some f) known
  pub node : ℕ
  pub at : node_at g known ≡ Some node
  pub list : Elements types names g node elements

-- the closed list at a path: none where there is no such list
abbrev pub IsListAt : TypeTable → ListTree → GraphMap → List (Option ℕ) → Option (List ℕ) → Type 0
IsListAt types names g path None = (elements : List ℕ) → HasList types names g path elements → ⊥
IsListAt types names g path (Some elements) = HasList types names g path elements
