use Rattle.std.proofs.Common.{ap, ◌∙◌}
use Rattle.std.proofs.lemmas.List.{take_all}
use Rattle.derivation.specs.Counts.{words_of}
use Rattle.derivation.specs.Counted.{held}
use Rattle.derivation.proofs.Counting.{count_more}
use Rattle.derivation.proofs.counts.count_of_all.Goals as goal

pub loop-tree-preserved : goal.loop-tree-preserved
loop-tree-preserved c =
    count_more c.args.trees.now c.loop-tree.tree-index c.tree-item.result _ _ _ c.loop-tree-test.true c.tree-item.is c.loop-tree.invariant c.count_of-words.ensures c.saturating_add-more.ensures

pub returns : goal.returns
returns c = λ h. c.loop-tree.invariant h ∙ ap (λ ts. held (words_of ts)) (take_all c.loop-tree.tree-index c.args.trees.now c.loop-tree-test.false)
