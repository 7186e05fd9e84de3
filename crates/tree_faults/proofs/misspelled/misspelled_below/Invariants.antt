use Rattle.std.proofs.Common.{map}
use Rattle.derivation.specs.Trees.{phrase}
use Rattle.derivation.specs.Views.{derivation_of, in_order}
use Rattle.tree_faults.specs.WordBooks.{said_by}
use Rattle.tree_faults.specs.Inner.Chains.{left_of}
use Rattle.tree_faults.specs.Inner.Walks.{open_of, IsWalking}
use Rattle.tree_faults.proofs.misspelled.misspelled_below.Given as goal

abbrev pub invariant-walk : goal.invariant-walk
invariant-walk l = IsWalking (said_by l.book) (phrase l.fn.rule (in_order (map derivation_of l.fn.daughters))) l.waiting.items l.here

abbrev pub decreases-walk : goal.decreases-walk
decreases-walk l = left_of open_of l.waiting.items l.here
