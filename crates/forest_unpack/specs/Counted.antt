-- Trees that hold the numbers of their words.
use Rattle.derivation.specs.Trees.{Derivation}
use Rattle.derivation.specs.Views.{derivation_of}
use Rattle.forest_unpack.specs.declared.counted.CountedTree.{CountedTree}

abbrev pub derivation_in : CountedTree → Derivation
derivation_in counted = derivation_of counted.tree
