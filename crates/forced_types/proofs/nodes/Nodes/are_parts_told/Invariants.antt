use Rattle.std.proofs.Common.{ℕ, ◌<◌, slice_index_or}
use Rattle.forced_types.specs.declared.placed.PlacedGraph.{PlacedGraph}
use Rattle.forced_types.specs.Inner.Closed.{IsPartTold}
use Rattle.forced_types.proofs.nodes.Nodes.are_parts_told.Given as goal

abbrev pub invariant-loop-i : goal.invariant-loop-i
invariant-loop-i l = (j : ℕ) → j < l.i → (d : PlacedGraph) → IsPartTold l.given l.self (slice_index_or l.given.parts.now j d)
