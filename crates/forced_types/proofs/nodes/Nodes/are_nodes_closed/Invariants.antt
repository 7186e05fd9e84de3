use Rattle.std.proofs.Common.{ℕ, ◌≡◌, ◌<◌}
use Rattle.forced_types.specs.Inner.Sound.{entry_in}
use Rattle.forced_types.specs.Inner.Closed.{IsNodeClosed}
use Rattle.forced_types.proofs.nodes.Nodes.are_nodes_closed.Given as goal

abbrev pub invariant-loop-n : goal.invariant-loop-n
invariant-loop-n l = (j : ℕ) → j < l.n → (entry_in l.self j).up ≡ j → IsNodeClosed l.given l.self j
