use Rattle.std.proofs.Common.{◌≡◌, ◌<◌, length, drop}
use Rattle.fs_model.specs.Table.{walk}
use Rattle.fs_graph.specs.Facts.{path_of}
use Rattle.fs_graph.specs.GraphMap.{table_of, node_at, IsGraph}
use Rattle.fs_graph.proofs.graph.Graph.at.Given as goal

abbrev pub invariant-loop-feat : goal.invariant-loop-feat
invariant-loop-feat l =
    record {
      graph : IsGraph l.self;
      rest : walk (table_of l.self) l.node.0 (path_of (drop l.feat-index l.path)) ≡ node_at l.self (path_of l.path);
      within : l.node.0 < length l.self.types;
    }
