use Rattle.std.proofs.Common.{◌<◌, length}
use Rattle.relation_fit.specs.Lists.{list_seen}
use Rattle.relation_fit.specs.Inner.Cells.{nodes_of}
use Rattle.relation_fit.proofs.Walked.{Before}
use Rattle.relation_fit.proofs.cells.cells.Given as goal

abbrev pub invariant-loop-turn : goal.invariant-loop-turn
invariant-loop-turn l = record {
  before : Before l.graph (list_seen l.list) (nodes_of l.cells.items) l.node.0;
  inside : l.node.0 < length l.graph.types;
}
