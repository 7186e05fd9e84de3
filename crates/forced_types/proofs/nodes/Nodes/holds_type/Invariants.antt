use Rattle.std.proofs.Common.{ℕ, ◌<◌, slice_index_or}
use Rattle.fs_closing.specs.Rules.{no_rule}
use Rattle.forced_types.specs.Inner.Closed.{AreHeld}
use Rattle.forced_types.proofs.nodes.Nodes.holds_type.Given as goal

abbrev pub invariant-loop-k : goal.invariant-loop-k
invariant-loop-k l = (j : ℕ) → j < l.k → AreHeld l.given.system.now.types l.self l.n l.left (slice_index_or l.given.system.now.rules (slice_index_or l.rules j 0) no_rule).claims
