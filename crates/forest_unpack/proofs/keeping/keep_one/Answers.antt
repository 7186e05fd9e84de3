use Rattle.forest_unpack.specs.Items.{item_of}
use Rattle.forest_unpack.proofs.Sorting.{kept_yes, kept_no}
use Rattle.forest_unpack.proofs.keeping.keep_one.Goals as goal

pub returns-in_ok-push-clause-kept : goal.returns-in_ok-push-clause-kept
returns-in_ok-push-clause-kept g c = kept_yes (g.F.Fulls.value c.args.demand.now.fulls.now) (g.F.Fulls.wholes c.args.demand.now.fulls.now) c.args.demand.now.cover.now (item_of (g.F.Fulls.value c.args.demand.now.fulls.now) c.args.item.now) c.in_ok-copy.field-0 _ _ c.in_ok-push.ensures.items c.in_ok-copy.ensures (c.in_ok-accepted.ensures.is.0 c.if-branch.true)

pub returns-else-branch-clause-kept : goal.returns-else-branch-clause-kept
returns-else-branch-clause-kept g c = kept_no (g.F.Fulls.value c.args.demand.now.fulls.now) (g.F.Fulls.wholes c.args.demand.now.fulls.now) c.args.demand.now.cover.now (item_of (g.F.Fulls.value c.args.demand.now.fulls.now) c.args.item.now) _ (λ a. let h = c.in_ok-accepted.ensures.is.1 a in let f = c.if-branch.false in absurd (cc))
