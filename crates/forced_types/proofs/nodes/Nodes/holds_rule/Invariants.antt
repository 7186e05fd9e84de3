use Rattle.std.proofs.Common.{ℕ, ◌<◌, slice_index_or}
use Rattle.fs_graph.specs.Facts.{claim_of}
use Rattle.fs_graph.specs.declared.facts.Fact.{Fact}
use Rattle.forced_types.specs.Inner.Closed.{HoldsAt}
use Rattle.forced_types.proofs.nodes.Nodes.holds_rule.Given as goal

abbrev pub invariant-loop-k : goal.invariant-loop-k
invariant-loop-k l = (j : ℕ) → j < l.k → (d : Fact) → HoldsAt l.given.system.now.types l.self l.n l.left (claim_of (slice_index_or l.facts j d))
