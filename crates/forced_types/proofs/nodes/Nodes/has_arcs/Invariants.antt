use Rattle.std.proofs.Common.{ℕ, ◌<◌, slice_index_or}
use Rattle.forced_types.specs.Inner.Told.{IsArcTold}
use Rattle.forced_types.proofs.nodes.Nodes.has_arcs.Given as goal

abbrev pub invariant-loop-k : goal.invariant-loop-k
invariant-loop-k l = (j : ℕ) → j < l.k → IsArcTold l.given l.self l.spots l.n (slice_index_or l.arcs j (record { feat = record { 0 = 0 }; to = record { 0 = 0 } }))
