use Rattle.std.proofs.Common.{ℕ, take}
use Rattle.fs_model.specs.Claims.{Has}
use Rattle.fs_unify.specs.Debts.{IsPaidBy}
use Rattle.fs_unify.proofs.owed.all_paid.Given as goal

abbrev pub invariant-loop-rule : goal.invariant-loop-rule
invariant-loop-rule l = (j : ℕ) → Has j (take l.rule-index l.rules) → (i : ℕ) × Has i l.row × IsPaidBy l.system l.debts i j
