-- Graphs beside one another, read where they stand.
use Rattle.std.specs.Prelude.{ℕ, ◌≤◌, ◌+◌, ◌-◌, ◌==◌, ◌&&◌, nat_lt, nat_le, Bool, true, false, Option, Some, None, List, [], map, length, find}
use Rattle.fs_model.specs.Claims.{Has}
use Rattle.fs_graph.specs.declared.graph.GraphArc.{GraphArc}
use Rattle.fs_graph.specs.GraphMap.{IsGraph, type_at, arcs_at}
use Rattle.fs_closing.specs.declared.cells.Cell.{Cell}
use Rattle.fs_closing.specs.declared.parts.Based.{Based}

-- the arcs of a graph's node as cells, where the graph's nodes begin at a number
abbrev pub cells_from : ℕ → List GraphArc → List Cell
cells_from base arcs = map (λ a. record { feat = a.feat.0; to = base + a.to.0; next = 0 }) arcs

-- the number is that of a node of the graph
abbrev pub holds : ℕ → Based → Bool
holds n p = nat_le p.base n && nat_lt (n - p.base) (length p.graph.now.types)

-- the graph of a node
abbrev pub home : ℕ → List Based → Option Based
home n parts = find (holds n) parts

-- what a node has from its graph: its type, a number of features that some path to it has at least, and its arcs
abbrev pub type_from : ℕ → Option Based → ℕ
type_from n None = 0
type_from n (Some p) = type_at p.graph.now (n - p.base)

abbrev pub depth_from : ℕ → Option Based → ℕ
depth_from n None = 0
depth_from n (Some p) = elim (n == p.base) [ true ↦ p.depth | false ↦ p.further ]

abbrev pub row_from : ℕ → Option Based → List Cell
row_from n None = []
row_from n (Some p) = cells_from p.base (arcs_at p.graph.now (n - p.base))

abbrev pub type_in : List Based → ℕ → ℕ
type_in parts n = type_from n (home n parts)

abbrev pub depth_in : List Based → ℕ → ℕ
depth_in parts n = depth_from n (home n parts)

abbrev pub row_in : List Based → ℕ → List Cell
row_in parts n = row_from n (home n parts)

-- the graphs' nodes have numbers below a number
abbrev pub ArePlaced : List Based → ℕ → Type 0
ArePlaced parts size = (p : Based) → Has p parts → IsGraph p.graph.now × (p.base + length p.graph.now.types ≤ size)
