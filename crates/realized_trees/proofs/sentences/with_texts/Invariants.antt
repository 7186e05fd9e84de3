use Rattle.std.proofs.Common.{◌≡◌, map}
use Rattle.derivation.specs.Views.{derivation_of}
use Rattle.realized_trees.specs.Views.{sentence_seen}
use Rattle.realized_trees.specs.TreeInner.{with_text}
use Rattle.realized_trees.proofs.sentences.with_texts.Given as goal

abbrev pub invariant-loop-tree : goal.invariant-loop-tree
invariant-loop-tree l = map sentence_seen l.all.items ≡ map with_text (map derivation_of l.yielded)
