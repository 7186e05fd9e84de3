use Rattle.std.proofs.Common.{◌<◌, ◌++◌, map, drop}
use Rattle.fs_model.specs.Table.{from}
use Rattle.fs_graph.specs.Facts.{claims_of}
use Rattle.fs_closing.specs.Work.{work_of}
use Rattle.fs_closing.specs.Keeps.{AreSound, Leads}
use Rattle.fs_unify.proofs.structure.apply_all.Given as goal

abbrev pub invariant-loop-fact : goal.invariant-loop-fact
invariant-loop-fact l =
    record {
      leads : Leads l.fn.system l.fn.nodes (map (from 0) (claims_of l.fn.facts) ++ work_of l.fn.system.rules l.fn.tasks)
          l.nodes (map (from 0) (drop l.fact-index (claims_of l.facts)) ++ work_of l.system.rules l.tasks);
      sound : AreSound l.system l.nodes l.tasks;
      filled : 0 < l.nodes.size;
    }
