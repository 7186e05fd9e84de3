-- Nodes and arcs of a graph that is being built.
use Rattle.std.specs.Prelude.{ℕ, ◌≡◌, ◌≢◌, ◌<◌, ◌^◌, ◌⊎◌, Some, List, [], ◌∷◌, ◌++◌, Vec, map, length, slice_index}
use Rattle.std.specs.Global.{Global}
use Rattle.type_hierarchy.specs.declared.types.Ty.{Ty}
use Rattle.fs_graph.specs.declared.graph.GraphArc.{GraphArc}
use Rattle.fs_graph.specs.GraphMap.{GraphMap, arcs_at, table_of, Rises}
use Rattle.fs_graph.specs.Visits.{targets_of}

abbrev pub drawn_map : List Ty → List (Vec GraphArc Global) → GraphMap
drawn_map types rows = record { types = map (λ t. t.0) types; arcs = map (λ r. r.items) rows }

-- each node has its arcs by rising feature, to nodes that are there
pub record IsDrawn (types : List Ty) (rows : List (Vec GraphArc Global)) : Type 0 where
  pub filled : 0 < length types
  pub few : length types < 2 ^ 32
  pub even : length rows ≡ length types
  pub rises : (n : ℕ) → n < length types → Rises (arcs_at (drawn_map types rows) n)
  pub to_in : (n i : ℕ) → n < length types → i < length (arcs_at (drawn_map types rows) n) →
      slice_index (targets_of (arcs_at (drawn_map types rows) n)) i < length types

-- one more node, without arcs
abbrev pub with_node : GraphMap → ℕ → GraphMap
with_node g ty = record { types = g.types ++ ty ∷ []; arcs = g.arcs ++ [] ∷ [] }

-- one more arc
pub record AddsArc (old new : GraphMap) (from feat to : ℕ) : Type 0 where
  pub types : new.types ≡ old.types
  pub here : (table_of new).arc from feat ≡ Some to
  pub others : (n f : ℕ) → (n ≢ from) ⊎ (f ≢ feat) → (table_of new).arc n f ≡ (table_of old).arc n f
