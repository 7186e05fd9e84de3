use Rattle.std.proofs.Common.{map, subst, sym}
use Rattle.fs_model.specs.Claims.{Has}
use Rattle.derivation.specs.Views.{derivation_of}
use Rattle.generate_model.specs.Sentences.{AreSentences}
use Rattle.realized_trees.specs.Views.{sentence_seen}
use Rattle.realized_trees.proofs.Told.{sentences_are}
use Rattle.realized_trees.proofs.sentence.sentences_of.Goals as goal

pub returns : goal.returns
returns c =
    let by = c.in_ok-by_text.ensures in
    subst (λ xs. AreSentences (λ t. Has t (map derivation_of c.args.trees.items)) (map sentence_seen xs)) (sym c.first_of_each.ensures)
    (sentences_are sentence_seen (map derivation_of c.args.trees.items) _ _ c.requires c.in_ok-all.ensures by.moved by.sorted by.stable)
