use Rattle.std.proofs.Common.{All, [], map, take, sym, subst, arith}
use Rattle.fs_model.specs.Closure.{AreConsistent}
use Rattle.tree_model.specs.Mothers.{Meant}
use Rattle.tree_model.specs.Signs.{rule_system}
use Rattle.book_signs.specs.Trees.{signs_of}
use Rattle.rule_trees.specs.Mothers.{IsMade}
use Rattle.generate_model.specs.Covers.{IsCount}
use Rattle.generated_leaves.specs.Views.{leaf_seen}
use Rattle.grammar_shapes.specs.Systems.{meaning_of, Belongs}
use Rattle.mrs_generate.specs.Inner.Lined.{AreLined, MayStand}
use Rattle.mrs_generate.proofs.Lined.{lined_none}
use Rattle.mrs_generate.proofs.Lists.{all_at, next_seen, all_seen}
use Rattle.mrs_generate.proofs.leaves.chart_leaves.Goals as goal

pub loop-leaf-init : goal.loop-leaf-init
loop-leaf-init c = record {
  lined = subst (λ ls. AreLined (signs_of c.args.signs.now) (meaning_of c.args.shapes.now) [] ls) (sym c.new-into.ensures.items) (lined_none (signs_of c.args.signs.now) (meaning_of c.args.shapes.now));
  stand = subst (λ ls. All (MayStand (Belongs c.args.shapes.now) c.args.bound.now) ls) (sym c.new-into.ensures.items) (λ k d q. absurd (omega (arith, q)));
}

pub add_leaf-requires-clause-sound : goal.add_leaf-requires-clause-sound
add_leaf-requires-clause-sound c =
    let g = signs_of c.args.signs.now in
    all_at (λ l. AreConsistent g.system (Meant (rule_system g) (leaf_seen c.args.signs.now l).full)) c.args.leaves.now c.loop-leaf.leaf-index c.leaf-item.result c.requires.sound c.loop-leaf-test.true c.leaf-item.is

pub add_leaf-requires-clause-made : goal.add_leaf-requires-clause-made
add_leaf-requires-clause-made c =
    all_at (λ l. IsMade (signs_of c.args.signs.now) (leaf_seen c.args.signs.now l).full) c.args.leaves.now c.loop-leaf.leaf-index c.leaf-item.result c.requires.made c.loop-leaf-test.true c.leaf-item.is

pub add_leaf-requires-clause-proper : goal.add_leaf-requires-clause-proper
add_leaf-requires-clause-proper c = all_at (λ l. IsCount c.args.bound.now l.cover) c.args.leaves.now c.loop-leaf.leaf-index c.leaf-item.result c.requires.proper c.loop-leaf-test.true c.leaf-item.is

pub loop-leaf-preserved : goal.loop-leaf-preserved
loop-leaf-preserved c = record {
  lined = next_seen (leaf_seen c.args.signs.now) (λ xs. AreLined (signs_of c.args.signs.now) (meaning_of c.args.shapes.now) xs c.add_leaf.new.into.items) c.args.leaves.now c.loop-leaf.leaf-index c.leaf-item.result c.loop-leaf-test.true c.leaf-item.is
      (c.in_ok-add_leaf.ensures.lined (map (leaf_seen c.args.signs.now) (take c.loop-leaf.leaf-index c.args.leaves.now)) c.loop-leaf.invariant.lined);
  stand = c.in_ok-add_leaf.ensures.stand c.loop-leaf.invariant.stand;
}

pub returns-clause-lined : goal.returns-clause-lined
returns-clause-lined c =
    all_seen (leaf_seen c.args.signs.now) (λ xs. AreLined (signs_of c.args.signs.now) (meaning_of c.args.shapes.now) xs c.loop-leaf.into.items) c.args.leaves.now c.loop-leaf.leaf-index c.loop-leaf-test.false c.loop-leaf.invariant.lined
