use Rattle.std.proofs.Common.{ℕ, ◌<◌}
use Rattle.type_hierarchy.specs.Decls.{decls_of}
use Rattle.type_hierarchy.specs.Faults.{IsReserved}
use Rattle.type_hierarchy.proofs.faults.first_reserved.Given as goal

abbrev pub invariant-loop-i : goal.invariant-loop-i
invariant-loop-i l = (j : ℕ) → j < l.i → IsReserved l.top (decls_of l.decls) j → ⊥
