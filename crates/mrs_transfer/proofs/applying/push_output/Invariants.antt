use Rattle.std.specs.Prelude.{◌≡◌, ◌≤◌, ◌++◌, map, drop, length, reverse}
use Rattle.mrs_model.specs.Renaming.{renamed_ep}
use Rattle.mrs_model.specs.Views.{predication_of}
use Rattle.mrs_transfer.proofs.applying.push_output.Given as goal

abbrev pub invariant-loop-left : goal.invariant-loop-left
invariant-loop-left l = record {
  few : l.left ≤ length l.output;
  added : map predication_of (reverse l.backwards.items) ≡ map (renamed_ep l.vars) (map predication_of (drop l.left l.output)) ++ map predication_of (reverse l.fn.backwards.items);
}

abbrev pub decreases-loop-left : goal.decreases-loop-left
decreases-loop-left l = l.left
