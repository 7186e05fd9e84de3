use Rattle.std.proofs.Common.{ℕ, ◌<◌, slice_index_or}
use Rattle.fs_graph.specs.Facts.{claim_of}
use Rattle.fs_graph.specs.declared.facts.Fact.{Fact}
use Rattle.forced_types.specs.Inner.Closed.{HoldsAt}
use Rattle.forced_types.specs.Inner.Sound.{most_of}
use Rattle.forced_types.proofs.nodes.Nodes.holds_facts.Given as goal

abbrev pub invariant-loop-k : goal.invariant-loop-k
invariant-loop-k l = (j : ℕ) → j < l.k → (d : Fact) → HoldsAt l.given.system.now.types l.self 0 (most_of l.given) (claim_of (slice_index_or l.given.facts.now j d))
