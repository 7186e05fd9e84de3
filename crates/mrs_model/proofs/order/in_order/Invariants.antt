use Rattle.std.specs.List.Sorted.{IsPermutation}
use Rattle.mrs_model.specs.Inner.State.{elements_of}
use Rattle.mrs_model.proofs.order.in_order.Given as goal

abbrev pub invariant-loop-place : goal.invariant-loop-place
invariant-loop-place l = IsPermutation (elements_of l.items) (elements_of l.out.items)
