use Rattle.std.proofs.Common.{◌≡◌, map, take, false, string_bytes}
use Rattle.derivation.specs.Views.{derivation_of}
use Rattle.derivation.specs.Text.{text_of}
use Rattle.profile_batch.proofs.judging.texts_of_trees.Given as goal

abbrev pub invariant-loop-tree : goal.invariant-loop-tree
invariant-loop-tree l =
    map (λ t. t.items) l.texts.items ≡ map (text_of (map string_bytes l.names) false) (map derivation_of (take l.tree-index l.trees))
