use Rattle.std.proofs.Common.{◌≡◌, ◌<◌, ◌++◌, drop}
use Rattle.fs_closing.specs.NodeTable.{table_of, own_row}
use Rattle.fs_closing.specs.Work.{work_of}
use Rattle.fs_closing.specs.Keeps.{AreSound, Leads, arc_claims}
use Rattle.fs_closing.proofs.steps.attach_own.Given as goal

abbrev pub invariant-loop-i : goal.invariant-loop-i
invariant-loop-i l =
    record {
      leads : Leads l.fn.system l.fn.nodes (arc_claims l.fn.n (own_row l.fn.nodes l.fn.of) ++ work_of l.fn.system.rules l.fn.tasks)
          l.nodes (arc_claims l.n (drop l.i (own_row l.fn.nodes l.of)) ++ work_of l.system.rules l.tasks);
      sound : AreSound l.system l.nodes l.tasks;
      size : l.nodes.size ≡ l.fn.nodes.size;
      node : l.n < l.nodes.size;
      of_in : l.of < l.nodes.size;
      own : own_row l.nodes l.of ≡ own_row l.fn.nodes l.of;
      stays : (table_of l.nodes).live l.n ≡ l.n;
    }
