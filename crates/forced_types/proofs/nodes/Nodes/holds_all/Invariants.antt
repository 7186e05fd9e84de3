use Rattle.std.proofs.Common.{ℕ, ◌≡◌, ◌<◌, true, slice_index_or}
use Rattle.type_hierarchy.specs.Table.{is_below}
use Rattle.fs_closing.specs.Rules.{facts_in}
use Rattle.forced_types.specs.Inner.Closed.{AreHeld}
use Rattle.forced_types.proofs.nodes.Nodes.holds_all.Given as goal

abbrev pub invariant-loop-k : goal.invariant-loop-k
invariant-loop-k l = (j : ℕ) → j < l.k → (u : ℕ) → is_below l.given.system.now.types (slice_index_or l.types j 0) u ≡ true → AreHeld l.given.system.now.types l.self l.n l.left (facts_in l.given.system.now.rules u)
