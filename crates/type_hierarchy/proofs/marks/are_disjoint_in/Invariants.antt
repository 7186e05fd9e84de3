use Rattle.std.proofs.Common.{◌≡◌, ◌&&◌, false}
use Rattle.type_hierarchy.specs.Bits.{has_bit}
use Rattle.type_hierarchy.proofs.MarkLemmas.{IsLeft}
use Rattle.type_hierarchy.proofs.marks.are_disjoint_in.Given as goal

abbrev pub invariant-loop-left : goal.invariant-loop-left
invariant-loop-left l = IsLeft l.mark l.left (λ x. (has_bit l.a x && has_bit l.b x) ≡ false)

abbrev pub decreases-loop-left : goal.decreases-loop-left
decreases-loop-left l = l.left
