use Rattle.std.proofs.Common.{◌∙◌, ap, sym, refl, map}
use Rattle.generated_leaves.specs.declared.leaves.Fit.TheVariants.{Not, Leaf}
use Rattle.generated_leaves.specs.Views.{told_seen, leaf_seen}
use Rattle.generated_leaves.specs.Inner.Picking.{picked}
use Rattle.generated_leaves.proofs.Picking.{pick_not, pick_leaf, flat_on}
use Rattle.generated_leaves.proofs.leaves.pick.Goals as goal
use Rattle.generated_leaves.proofs.leaves.pick.Goals.{in-Not, in-Leaf+in_ok-leaf_of-in-Leaf+in_ok-push-in-Leaf}

pub loop-one-preserved : goal.loop-one-preserved
loop-one-preserved c = elim c.match-fitting.branch [
  | in-Not w ↦ record {
    leaves = λ t. rw w.leaves-is
        (pick_not c.args.bag.now c.args.most c.args.empty (told_seen t) c.args.told.now c.loop-one.one-index c.one-item.result (map (leaf_seen t) c.loop-one.leaves.items)
        (picked c.args.bag.now c.args.most c.args.empty (map (told_seen t) c.args.told.now)) c.loop-one-test.true c.one-item.is (sym c.fitting.ensures ∙ w.in-Not.is) (c.loop-one.invariant.leaves t));
    flat = λ t. flat_on c.args.bag.now c.args.most c.args.empty (told_seen t) c.args.told.now c.loop-one.one-index c.one-item.result Not _ c.loop-one-test.true c.one-item.is (sym c.fitting.ensures ∙ w.in-Not.is) refl (c.loop-one.invariant.flat t);
  }
  | in-Leaf+in_ok-leaf_of-in-Leaf+in_ok-push-in-Leaf w ↦ record {
    leaves = λ t.
        pick_leaf c.args.bag.now c.args.most c.args.empty (told_seen t) (leaf_seen t) c.args.told.now c.loop-one.one-index c.one-item.result c.loop-one.leaves.items c.match-fitting.leaves.items w.in_ok-leaf_of-in-Leaf.field-0
        (picked c.args.bag.now c.args.most c.args.empty (map (told_seen t) c.args.told.now)) c.loop-one-test.true c.one-item.is (sym c.fitting.ensures ∙ w.in-Leaf.is)
        (ap (λ v. v.items) w.leaves-is ∙ w.in_ok-push-in-Leaf.ensures.items) (w.in_ok-leaf_of-in-Leaf.ensures t) (c.loop-one.invariant.leaves t);
    flat = λ t. flat_on c.args.bag.now c.args.most c.args.empty (told_seen t) c.args.told.now c.loop-one.one-index c.one-item.result Leaf _ c.loop-one-test.true c.one-item.is (sym c.fitting.ensures ∙ w.in-Leaf.is) refl (c.loop-one.invariant.flat t);
  }
]
