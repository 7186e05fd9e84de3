use Rattle.std.proofs.Common.{ℕ, ◌<◌}
use Rattle.forced_types.specs.Inner.Search.{IsMarked}
use Rattle.forced_types.proofs.nodes.Nodes.are_marked.Given as goal

abbrev pub invariant-loop-n : goal.invariant-loop-n
invariant-loop-n l = (j : ℕ) → j < l.n → IsMarked l.given l.self l.aim l.marks j
