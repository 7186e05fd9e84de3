use Rattle.fs_closing.specs.Work.{work_of}
use Rattle.fs_closing.specs.Keeps.{AreSound, Leads}
use Rattle.fs_unify.proofs.limited.close_few.Given as goal

abbrev pub invariant-loop : goal.invariant-loop
invariant-loop l =
    record {
      leads : Leads l.fn.system l.fn.nodes (work_of l.fn.system.rules l.fn.tasks) l.nodes (work_of l.system.rules l.tasks);
      sound : AreSound l.system l.nodes l.tasks;
    }
