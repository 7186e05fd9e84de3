use Rattle.std.proofs.Common.{ℕ}
use Rattle.fs_model.specs.Claims.{Has}
use Rattle.fs_unify.proofs.owed.least_of.Given as goal

abbrev pub invariant-loop-rule : goal.invariant-loop-rule
invariant-loop-rule l = (j : ℕ) → Has j l.row.items → Has j l.rules
