use Rattle.std.proofs.Common.{ℕ, ◌≡◌, ◌<◌}
use Rattle.forced_types.specs.Inner.Sound.{entry_in}
use Rattle.forced_types.proofs.nodes.Nodes.is_flat.Given as goal

abbrev pub invariant-loop-n : goal.invariant-loop-n
invariant-loop-n l = (j : ℕ) → j < l.n → (entry_in l.self (entry_in l.self j).up).up ≡ (entry_in l.self j).up
