use Rattle.std.proofs.Common.{arith}
use Rattle.tree_model.specs.Signs.{rule_system}
use Rattle.generate_model.specs.Threading.{Fit}
use Rattle.book_signs.specs.Trees.{signs_of}
use Rattle.rule_trees.specs.Mothers.{IsMade}
use Rattle.generated_leaves.specs.Views.{leaf_seen}
use Rattle.relation_fit.specs.Lists.{list_seen}
use Rattle.realized_trees.proofs.Seen.{seen_at, seen_next, seen_all}
use Rattle.realized_trees.proofs.sifting.leaves_reach.Goals as goal

pub leaf_reaches-requires : goal.leaf_reaches-requires
leaf_reaches-requires c =
    let t = c.args.signs.now in
    rw c.deref.ensures (seen_at (λ l. IsMade (signs_of t) (leaf_seen t l).full) c.args.leaves.now c.loop-leaf.leaf-index c.leaf-item.result c.loop-leaf-test.true c.leaf-item.is c.requires)

pub loop-leaf-init : goal.loop-leaf-init
loop-leaf-init c = λ k d q. absurd (omega (arith, q))

pub loop-leaf-preserved : goal.loop-leaf-preserved
loop-leaf-preserved c =
    let t = c.args.signs.now in
    let l = list_seen c.args.list.now in
    seen_next (leaf_seen t) (λ x. Fit (rule_system (signs_of t)) l.rest l.ends x.full) c.args.leaves.now c.loop-leaf.leaf-index c.leaf-item.result c.loop-leaf-test.true c.leaf-item.is
    (rw c.deref.ensures at (c.in_ok-leaf_reaches.ensures c.if-not-branch.false)) c.loop-leaf.invariant

pub returns : goal.returns
returns c = λ told.
    let t = c.args.signs.now in
    let l = list_seen c.args.list.now in
    seen_all (leaf_seen t) (λ x. Fit (rule_system (signs_of t)) l.rest l.ends x.full) c.args.leaves.now c.loop-leaf.leaf-index c.loop-leaf-test.false c.loop-leaf.invariant
