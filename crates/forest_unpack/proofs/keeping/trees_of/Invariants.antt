use Rattle.std.proofs.Common.{◌≡◌, map}
use Rattle.derivation.specs.Views.{derivation_of}
use Rattle.forest_unpack.specs.Counted.{derivation_in}
use Rattle.forest_unpack.proofs.keeping.trees_of.Given as goal

abbrev pub invariant-loop-one : goal.invariant-loop-one
invariant-loop-one l = map derivation_of l.trees.items ≡ map derivation_in l.yielded
