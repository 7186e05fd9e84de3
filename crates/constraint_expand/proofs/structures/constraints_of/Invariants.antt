use Rattle.std.proofs.Common.{◌≡◌}
use Rattle.constraint_expand.proofs.StructureLemmas.{AreConstraintsTo}
use Rattle.constraint_expand.proofs.structures.constraints_of.Given as goal

abbrev pub invariant-loop-t : goal.invariant-loop-t
invariant-loop-t l =
    record {
      same : l.system ≡ l.fn.system;
      so_far : AreConstraintsTo l.fn.system l.fn.limit l.t l.graphs.items;
    }
