use Rattle.std.proofs.Common.{ℕ, ◌<◌}
use Rattle.fs_graph.specs.GraphMap.{IsSameNode}
use Rattle.fs_graph.proofs.graph.Graph.same.Given as goal

abbrev pub invariant-loop-n : goal.invariant-loop-n
invariant-loop-n l = (k : ℕ) → k < l.n → IsSameNode l.self l.other k
