use Rattle.std.proofs.Common.{◌≡◌, ◌<◌, ◌≤◌, ◌++◌, length}
use Rattle.fs_closing.specs.Cells.{chain}
use Rattle.fs_closing.specs.NodeTable.{table_of}
use Rattle.fs_closing.specs.NodeSteps.{KeepsArcs}
use Rattle.fs_closing.specs.Work.{work_of}
use Rattle.fs_closing.specs.Keeps.{AreSound, Leads, arc_claims}
use Rattle.fs_closing.proofs.steps.attach_cells.Given as goal

abbrev pub invariant-loop-place : goal.invariant-loop-place
invariant-loop-place l =
    record {
      leads : Leads l.fn.system l.fn.nodes (arc_claims l.fn.n (chain l.fn.nodes.cells l.fn.first) ++ work_of l.fn.system.rules l.fn.tasks)
          l.nodes (arc_claims l.n (chain l.nodes.cells l.place) ++ work_of l.system.rules l.tasks);
      sound : AreSound l.system l.nodes l.tasks;
      node : l.n < l.nodes.size;
      place_in : l.place ≤ length l.nodes.cells;
      kept : KeepsArcs l.fn.nodes l.nodes;
      stays : (table_of l.nodes).live l.n ≡ l.n;
    }

abbrev pub decreases-loop-place : goal.decreases-loop-place
decreases-loop-place l = l.place
