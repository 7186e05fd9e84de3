use Rattle.std.proofs.Common.{map}
use Rattle.derivation.specs.Trees.{phrase}
use Rattle.derivation.specs.Views.{derivation_of, in_order}
use Rattle.tree_structures.specs.Known.{IsRight}
use Rattle.tree_structures.specs.Inner.Walks.{IsWalking, left_of}
use Rattle.tree_structures.proofs.fulls.phrase_number.Given as goal

abbrev pub invariant-walk : goal.invariant-walk
invariant-walk l = IsRight l.fulls l.memo × IsWalking l.fulls l.memo (phrase l.fn.rule (in_order (map derivation_of l.fn.daughters))) l.waiting.items l.here

abbrev pub decreases-walk : goal.decreases-walk
decreases-walk l = left_of l.waiting.items l.here
