use Rattle.std.proofs.Common.{take}
use Rattle.fs_unify.proofs.BoundLemmas.{AddsBounds}
use Rattle.fs_unify.proofs.debts.push_bounds.Given as goal

abbrev pub invariant-loop-arc : goal.invariant-loop-arc
invariant-loop-arc l = AddsBounds l.system l.graph l.n (take l.arc-index l.arc-items) l.bounds.items
