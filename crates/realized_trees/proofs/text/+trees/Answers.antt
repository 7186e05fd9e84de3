use Rattle.std.proofs.Common.{Vec, Global, ap, ◌∙◌, arith}
use Rattle.derivation.specs.declared.Tree.{Tree}
use Rattle.derivation.specs.Views.{derivation_of}
use Rattle.derivation.proofs.Weights.{weight, weight_of, weight-Phrase}
use Rattle.realized_trees.proofs.Words.{tree_more}
use Rattle.realized_trees.proofs.text.+trees.Goals as goal

pub put_tree-put_trees-requires : goal.put_tree-put_trees-requires
put_tree-put_trees-requires t c =
    let whole = weight-Phrase c.in-Phrase.rule c.in-Phrase.words c.in-Phrase.daughters in
    let is = ap (λ d. weight (derivation_of d)) c.in-Phrase.is in
    let same = ap weight_of (c.deref-in-Phrase-2.ensures.value ∙ ap (λ (ds : Vec Tree Global). ds.items) c.deref-in-Phrase.ensures) in
    (omega arith, tt)

pub put_trees-loop-tree-preserved : goal.put_trees-loop-tree-preserved
put_trees-loop-tree-preserved t c =
    tree_more c.args.trees.now c.loop-tree.tree-index c.tree-item.result c.loop-tree-test.true c.tree-item.is _ _ _ c.loop-tree.invariant c.in_ok-put_tree.ensures
