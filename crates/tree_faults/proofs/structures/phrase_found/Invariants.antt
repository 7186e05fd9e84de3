use Rattle.std.proofs.Common.{map}
use Rattle.derivation.specs.Trees.{phrase}
use Rattle.derivation.specs.Views.{derivation_of, in_order}
use Rattle.tree_faults.specs.Inner.Building.{IsWalking, left_of}
use Rattle.tree_faults.proofs.structures.phrase_found.Given as goal

abbrev pub invariant-walk : goal.invariant-walk
invariant-walk l = IsWalking l.signs (phrase l.fn.rule (in_order (map derivation_of l.fn.daughters))) l.waiting.items l.here

abbrev pub decreases-walk : goal.decreases-walk
decreases-walk l = left_of l.waiting.items l.here
