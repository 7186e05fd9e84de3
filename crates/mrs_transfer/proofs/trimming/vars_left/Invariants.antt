use Rattle.std.specs.Prelude.{◌≡◌, ◌≤◌, Some, length, map, take, drop, reverse}
use Rattle.std.specs.List.{AllZip, slice_get}
use Rattle.mrs_model.specs.Views.{variable_of}
use Rattle.mrs_transfer.specs.Inner.Trimming.{marked_from}
use Rattle.mrs_transfer.proofs.trimming.vars_left.Given as goal

abbrev pub invariant-loop-var : goal.invariant-loop-var
invariant-loop-var l = record {
  few : length l.rest.items ≤ length l.marks;
  front : l.rest.items ≡ take (length l.rest.items) l.fn.vars.items;
  left : AllZip (λ v x. slice_get (map variable_of l.fn.vars.items) v ≡ Some x) (marked_from (length l.rest.items) (drop (length l.rest.items) l.marks)) (map variable_of (reverse l.backwards.items));
}

abbrev pub decreases-loop-var : goal.decreases-loop-var
decreases-loop-var l = length l.rest.items
