use Rattle.std.proofs.Common.{ℕ, ◌<◌, ◌≤◌, slice_index_or}
use Rattle.forced_types.specs.Inner.Sound.{entry_in}
use Rattle.forced_types.specs.Inner.Search.{stepped, mark_at}
use Rattle.forced_types.proofs.nodes.Nodes.is_marked.Given as goal

abbrev pub invariant-loop-k : goal.invariant-loop-k
invariant-loop-k l =
    (j : ℕ) → j < l.k → mark_at l.marks l.n ≤ stepped l.aim (mark_at l.marks (entry_in l.self (slice_index_or l.arcs j (record { feat = record { 0 = 0 }; to = record { 0 = 0 } })).to.0).up)
