use Rattle.fs_closing.specs.NodeTable.{table_of, AreFlat}
use Rattle.fs_closing.specs.Rules.{system_of}
use Rattle.fs_closing.specs.Work.{work_of}
use Rattle.fs_closing.specs.Keeps.{AreSound}
use Rattle.fs_unify.specs.Entering.{Carries, ArePaid}
use Rattle.fs_unify.proofs.entering.enter_owed.Given as goal

abbrev pub invariant-loop-k : goal.invariant-loop-k
invariant-loop-k l =
    record {
      carries : Carries (system_of l.system) (table_of l.fn.nodes) (work_of l.system.rules l.fn.tasks) (table_of l.nodes) (work_of l.system.rules l.tasks);
      sound : AreSound l.system l.nodes l.tasks;
      flat : AreFlat l.fn.nodes → AreFlat l.nodes;
      paid : ArePaid l.system l.graph l.offset l.k (table_of l.nodes) (work_of l.system.rules l.tasks);
    }
