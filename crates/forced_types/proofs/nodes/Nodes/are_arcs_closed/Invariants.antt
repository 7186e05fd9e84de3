use Rattle.std.proofs.Common.{ℕ, ◌<◌, slice_index_or}
use Rattle.forced_types.specs.Inner.Closed.{IsArcClosed}
use Rattle.forced_types.proofs.nodes.Nodes.are_arcs_closed.Given as goal

abbrev pub invariant-loop-k : goal.invariant-loop-k
invariant-loop-k l = (j : ℕ) → j < l.k → IsArcClosed l.given l.self l.n (slice_index_or l.arcs j (record { feat = record { 0 = 0 }; to = record { 0 = 0 } })).feat.0 (slice_index_or l.arcs j (record { feat = record { 0 = 0 }; to = record { 0 = 0 } })).to.0
