use Rattle.std.proofs.Common.{Bool, length, map}
use Rattle.fs_model.specs.Claims.{Claim}
use Rattle.fs_unify.specs.Owing.{HaveOwing}
use Rattle.fs_unify.specs.Inner.Marks.{HaveMarks}
use Rattle.fs_unify.proofs.owed.rows_owed.Given as goal

abbrev pub invariant-loop-t : goal.invariant-loop-t
invariant-loop-t l = (owed : Claim → Bool) → HaveMarks l.system owed (length l.system.rules) l.marks → HaveOwing l.system owed l.debts l.t (map (λ row. row.items) l.rows.items)
