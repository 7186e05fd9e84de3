use Rattle.std.proofs.Common.{◌∙◌, map, sym, ap, refl}
use Rattle.std.proofs.lemmas.Iterator.Adapters.{YieldsList-from_vec}
use Rattle.std.proofs.lemmas.Iterator.Consumers.{YieldsList-end}
use Rattle.derivation.specs.Views.{derivation_of}
use Rattle.realized_trees.specs.TreeInner.{with_text}
use Rattle.realized_trees.specs.Views.{sentence_seen}
use Rattle.realized_trees.proofs.Words.{told_more, same_map}
use Rattle.realized_trees.proofs.sentences.with_texts.Goals as goal

pub loop-tree-preserved : goal.loop-tree-preserved
loop-tree-preserved c = ap (map sentence_seen) c.in_ok-push.ensures.items ∙ told_more c.loop-tree.all.items _ c.loop-tree.yielded c.in-Some.tree refl c.in_ok-text.ensures c.loop-tree.invariant

pub returns : goal.returns
returns c =
    let end = YieldsList-end (YieldsList-from_vec c.args.trees.items (cc) (cc)) c.loop-tree.yielded _ c.loop-tree.yielded_by _ c.next.new.self c.in-None.is c.next.ensures.steps in
    c.loop-tree.invariant ∙ ap (λ ts. map with_text (map derivation_of ts)) (sym (same_map c.loop-tree.yielded) ∙ end.0)
