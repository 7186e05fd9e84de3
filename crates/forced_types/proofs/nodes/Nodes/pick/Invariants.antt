use Rattle.std.proofs.Common.{ℕ, ◌≡◌, ◌<◌, ◌≤◌, Some, slice_index_or}
use Rattle.fs_graph.specs.declared.facts.Feat.{Feat}
use Rattle.forced_types.specs.Inner.Sound.{most_of, entry_in}
use Rattle.forced_types.specs.Inner.Search.{IsNear, mark_at}
use Rattle.forced_types.proofs.nodes.Nodes.pick.Given as goal

abbrev pub invariant-loop-k : goal.invariant-loop-k
invariant-loop-k l =
    (j : ℕ) → j < l.k → IsNear l.aim (most_of l.given) (mark_at l.marks (entry_in l.self (slice_index_or l.arcs j (record { feat = record { 0 = 0 }; to = record { 0 = 0 } })).to.0).up) l.length →
    (b : Feat) × (l.best ≡ Some b) × (b.0 ≤ (slice_index_or l.arcs j (record { feat = record { 0 = 0 }; to = record { 0 = 0 } })).feat.0)
