use Rattle.std.proofs.Common.{◌≡◌, ◌<◌, ℕ, length, get_or}
use Rattle.mrs_model.specs.Inner.Bindings.{Binds}
use Rattle.mrs_model.proofs.bindings.Bindings.map_of.Given as goal

abbrev pub invariant-loop-x : goal.invariant-loop-x
invariant-loop-x l = record {
  even : length l.to.items ≡ l.x;
  bound : (j : ℕ) → j < l.x → Binds l.self.pairs j (get_or l.to.items j 0);
}
