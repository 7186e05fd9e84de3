use Rattle.std.proofs.Common.{sym, subst}
use Rattle.fs_unify.specs.Debts.{HaveBounds}
use Rattle.fs_unify.proofs.BoundLemmas.{bounds_none}
use Rattle.fs_unify.proofs.debts.bounds_of.Goals as goal

pub loop-n-init : goal.loop-n-init
loop-n-init c = subst (HaveBounds c.args.system.now c.args.graph.now 0) (sym c.new-bounds.ensures.items) (bounds_none c.args.system.now c.args.graph.now)
