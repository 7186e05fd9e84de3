use Rattle.std.proofs.Common.{◌≤◌, ◌++◌, map, drop}
use Rattle.fs_closing.specs.Work.{work_of}
use Rattle.fs_closing.specs.Keeps.{AreSound, Leads}
use Rattle.fs_unify.specs.Placing.{part_in, joints}
use Rattle.fs_unify.proofs.unifier.connect.Given as goal

abbrev pub invariant-loop-i : goal.invariant-loop-i
invariant-loop-i l =
    record {
      leads : Leads l.fn.system l.fn.nodes (joints (map part_in l.fn.parts) l.fn.offsets ++ work_of l.fn.system.rules l.fn.tasks)
          l.nodes (joints (drop l.i (map part_in l.parts)) (drop l.i l.offsets) ++ work_of l.system.rules l.tasks);
      sound : AreSound l.system l.nodes l.tasks;
      more : l.fn.nodes.size ≤ l.nodes.size;
    }
