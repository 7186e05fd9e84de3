use Rattle.std.proofs.Common.{◌≡◌, take}
use Rattle.derivation.specs.Counts.{words_of}
use Rattle.derivation.specs.Counted.{held, AreCounted}
use Rattle.derivation.proofs.counts.count_of_all.Given as goal

abbrev pub invariant-loop-tree : goal.invariant-loop-tree
invariant-loop-tree l = AreCounted l.trees → l.count ≡ held (words_of (take l.tree-index l.trees))
