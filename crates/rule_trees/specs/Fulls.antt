-- What contracts see of full structures.
use Rattle.rule_trees.specs.declared.bounded.BoundedGraph.{BoundedGraph}

-- a full structure as a graph, with the bounds of the grammar that made it
pub record FullTree : Type 0 where
  pub graph : BoundedGraph
