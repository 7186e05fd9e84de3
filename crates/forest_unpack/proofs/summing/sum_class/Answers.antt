use Rattle.std.proofs.Common.{subst}
use Rattle.tree_model.specs.Counts as counts
use Rattle.forest_unpack.specs.Inner.Classes.{class_of}
use Rattle.forest_unpack.proofs.Totals.{one_asked}
use Rattle.forest_unpack.proofs.summing.sum_class.Goals as goal

pub returns-then-branch : goal.returns-then-branch
returns-then-branch g c =
    let fulls = c.args.fulls.now in
    let ok = subst (λ t. (g.F.Fulls.wholes fulls).accepted (g.F.Fulls.value fulls t) c.args.cover.now) c.deref.ensures (c.in_ok-accepts.ensures.0 c.if-branch.true) in
    one_asked (g.F.Fulls.wholes fulls) c.args.cover.now (class_of (g.F.Fulls.value fulls) c.args.class.now) ok

pub returns : goal.returns
returns g c = counts.accepts_none
