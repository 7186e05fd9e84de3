use Rattle.std.proofs.Common.{◌<◌, ◌≤◌, ◌∷◌, drop}
use Rattle.fs_model.specs.Table.{NodeClaim}
use Rattle.fs_graph.specs.Facts.{path_of}
use Rattle.fs_closing.specs.Work.{work_of}
use Rattle.fs_closing.specs.Keeps.{AreSound, Leads, begin}
use Rattle.fs_closing.proofs.closing.reach.Given as goal

abbrev pub invariant-loop-feat : goal.invariant-loop-feat
invariant-loop-feat l =
    record {
      leads : (c : NodeClaim) → Leads l.fn.system l.fn.nodes (begin l.fn.node (path_of l.fn.path) c ∷ work_of l.fn.system.rules l.fn.tasks)
          l.nodes (begin l.at (drop l.feat-index (path_of l.path)) c ∷ work_of l.system.rules l.tasks);
      sound : AreSound l.system l.nodes l.tasks;
      node : l.at < l.nodes.size;
      more : l.fn.nodes.size ≤ l.nodes.size;
    }
