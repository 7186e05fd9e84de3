use Rattle.std.proofs.Common.{◌≡◌, ◌<◌, drop, length}
use Rattle.fs_graph.specs.Facts.{path_of}
use Rattle.fs_model.specs.Table.{walk}
use Rattle.fs_graph.specs.GraphMap.{table_of}
use Rattle.relation_fit.proofs.fitting.follow.Given as goal

abbrev pub invariant-loop-k : goal.invariant-loop-k
invariant-loop-k l = (walk (table_of l.graph) l.fn.from.0 (path_of l.path) ≡ walk (table_of l.graph) l.node.0 (path_of (drop l.k l.path))) × (l.node.0 < length l.graph.types)
