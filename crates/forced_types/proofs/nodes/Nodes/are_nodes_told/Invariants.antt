use Rattle.std.proofs.Common.{ℕ, ◌<◌}
use Rattle.forced_types.specs.Inner.Told.{IsNodeTold}
use Rattle.forced_types.proofs.nodes.Nodes.are_nodes_told.Given as goal

abbrev pub invariant-loop-k : goal.invariant-loop-k
invariant-loop-k l = (j : ℕ) → j < l.k → IsNodeTold l.given l.self l.graph l.spots j
