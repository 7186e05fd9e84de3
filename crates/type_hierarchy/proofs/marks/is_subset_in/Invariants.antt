use Rattle.std.proofs.Common.{◌≡◌, true}
use Rattle.type_hierarchy.specs.Bits.{has_bit}
use Rattle.type_hierarchy.proofs.MarkLemmas.{IsLeft}
use Rattle.type_hierarchy.proofs.marks.is_subset_in.Given as goal

abbrev pub invariant-loop-left : goal.invariant-loop-left
invariant-loop-left l = IsLeft l.mark l.left (λ x. has_bit l.a x ≡ true → has_bit l.b x ≡ true)

abbrev pub decreases-loop-left : goal.decreases-loop-left
decreases-loop-left l = l.left
