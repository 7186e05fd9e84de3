-- The rows of a graph, in the order in which a visit met its nodes.
use Rattle.std.specs.Prelude.{ℕ, ◌≡◌, List, map, take, length, slice_index, slice_index_or}
use Rattle.std.specs.List.{flat_map, range_with_len}
use Rattle.type_hierarchy.specs.declared.types.Ty.{Ty}
use Rattle.fs_graph.specs.declared.graph.GraphArc.{GraphArc}
use Rattle.fs_graph.specs.Inside.{row}

-- an arc to the number of its node
abbrev pub renumber : List ℕ → GraphArc → GraphArc
renumber numbers a = record { feat = a.feat; to = record { 0 = slice_index numbers a.to.0 } }

abbrev pub new_row : List ℕ → List GraphArc → List ℕ → ℕ → List GraphArc
new_row starts arcs numbers n = map (renumber numbers) (row starts arcs n)

abbrev pub new_type : List Ty → ℕ → Ty
new_type types n = slice_index_or types n (record { 0 = 0 })

-- the place where the arcs of the k-th of some elements begin
abbrev pub starts_of : {X : Type 0} → (X → List GraphArc) → List X → ℕ → ℕ
starts_of f xs k = length (flat_map f (take k xs))

abbrev pub new_start : List ℕ → List GraphArc → List ℕ → List ℕ → ℕ → ℕ
new_start starts arcs numbers order k = starts_of (new_row starts arcs numbers) order k

-- the first `done` nodes of the order have their types, starts and arcs
pub record AreRenumbered (types : List Ty) (starts : List ℕ) (arcs : List GraphArc) (numbers order : List ℕ) (done : ℕ)
    (new_types : List Ty) (new_starts : List ℕ) (new_arcs : List GraphArc) : Type 0 where
  pub types_are : new_types ≡ map (new_type types) (take done order)
  pub starts_are : new_starts ≡ map (new_start starts arcs numbers order) (range_with_len 0 done)
  pub arcs_are : new_arcs ≡ flat_map (new_row starts arcs numbers) (take done order)
