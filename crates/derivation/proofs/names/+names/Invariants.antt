use Rattle.std.proofs.Common.{◌+◌, map, take}
use Rattle.derivation.specs.Text.{AreNamed}
use Rattle.derivation.specs.Views.{derivation_of, in_order}
use Rattle.derivation.proofs.Weights.{weight, weight_of}
use Rattle.derivation.proofs.names.+names.Given as goal

abbrev pub decreases-is_named : goal.decreases-is_named
decreases-is_named l = weight (derivation_of l.tree.now)

abbrev pub decreases-are_named : goal.decreases-are_named
decreases-are_named l = weight_of l.daughters.now + 1

abbrev pub invariant-are_named-loop-daughter : goal.invariant-are_named-loop-daughter
invariant-are_named-loop-daughter l = AreNamed l.count (in_order (map derivation_of (take l.daughter-index l.daughters)))
