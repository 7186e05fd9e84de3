-- Arcs of all nodes in one list, each node's from a start to the next.
use Rattle.std.specs.Prelude.{ℕ, ◌≡◌, ◌<◌, ◌≤◌, ◌+◌, ◌^◌, List, map, length, slice_index}
use Rattle.std.specs.List.{range_with_len, between}
use Rattle.type_hierarchy.specs.declared.types.Ty.{Ty}
use Rattle.fs_graph.specs.declared.graph.GraphArc.{GraphArc}
use Rattle.fs_graph.specs.GraphMap.{GraphMap, IsGraph}

-- the arcs of a node
abbrev pub row : List ℕ → List GraphArc → ℕ → List GraphArc
row starts arcs n = between (slice_index starts n) (slice_index starts (n + 1)) arcs

abbrev pub graph_map : List Ty → List ℕ → List GraphArc → GraphMap
graph_map types starts arcs =
    record { types = map (λ t. t.0) types; arcs = map (row starts arcs) (range_with_len 0 (length types)) }

-- each node's arcs begin where the last one's end
pub record AreRows (nodes : ℕ) (starts : List ℕ) (arcs : ℕ) : Type 0 where
  pub one_more : length starts ≡ nodes + 1
  pub rise : (n : ℕ) → n < nodes → slice_index starts n ≤ slice_index starts (n + 1)
  pub inside : (n : ℕ) → n ≤ nodes → slice_index starts n ≤ arcs

pub record IsGraphInside (types : List Ty) (starts : List ℕ) (arcs : List GraphArc) : Type 0 where
  pub few : length types < 2 ^ 32
  pub rows : AreRows (length types) starts (length arcs)
  pub graph : IsGraph (graph_map types starts arcs)
