use Rattle.std.proofs.Common.{take}
use Rattle.fs_closing.specs.Keeps.{AreSound}
use Rattle.fs_unify.specs.Placing.{HasEntered}
use Rattle.fs_unify.proofs.unifier.enter_all.Given as goal

abbrev pub invariant-loop-i : goal.invariant-loop-i
invariant-loop-i l =
    record {
      entered : HasEntered l.system l.parts (take l.i l.parts) l.offsets.items l.nodes l.tasks;
      sound : AreSound l.system l.nodes l.tasks;
    }
