use Rattle.std.proofs.Common.{ℕ, ◌≡◌, ◌<◌, true}
use Rattle.type_hierarchy.specs.Table.{is_below}
use Rattle.generate_model.proofs.settled.is_settled.Given as goal

abbrev pub invariant-loop-t : goal.invariant-loop-t
invariant-loop-t l = (u : ℕ) → u < l.t → is_below l.types u l.ty.0 ≡ true → u ≡ l.ty.0
