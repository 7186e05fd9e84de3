-- Graphs that are drawn have no arcs at first.
use Rattle.std.proofs.Common.{ℕ, zero, suc, ◌≡◌, None, List, [], ◌∷◌, ◌++◌, slice_index_or, refl, sym, subst}
use Rattle.fs_graph.specs.declared.graph.GraphArc.{GraphArc}
use Rattle.fs_graph.specs.GraphMap.{GraphMap, arc_to}
use Rattle.fs_graph.specs.Drawn.{with_node}
use Rattle.structure_rows.specs.Free.{IsEmpty}

row_after : (rows : List (List GraphArc)) (n : ℕ) → slice_index_or (rows ++ [] ∷ []) n [] ≡ slice_index_or rows n []
row_after [] zero = refl
row_after [] (suc n) = refl
row_after (r ∷ rs) zero = refl
row_after (r ∷ rs) (suc n) = row_after rs n

-- one more node
pub empty_after : (g : GraphMap) (ty : ℕ) → IsEmpty g → IsEmpty (with_node g ty)
empty_after g ty e n f = subst (λ r. arc_to r f ≡ None) (sym (row_after g.arcs n)) (e n f)

-- a root alone
pub empty_root : (types : List ℕ) → IsEmpty (record { types = types; arcs = [] ∷ [] })
empty_root types zero f = refl
empty_root types (suc n) f = refl
