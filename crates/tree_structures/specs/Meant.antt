-- What a full structure means, as a graph.
use Rattle.fs_model.specs.Sources.{IsGraphOf}
use Rattle.fs_graph.specs.GraphMap.{GraphMap, IsGraph, reader_of}
use Rattle.tree_model.specs.Structures.{Structure, Says}
use Rattle.tree_model.specs.Signs.{Signs}

-- A structure is kept by the part of it that isn't a daughter's; it means the closure of what it says. The graph is the structure of
-- that closure, with its nodes in their order.
pub record IsMeantBy (g : Signs) (f : Structure) (graph : GraphMap) : Type 0 where
  pub graph_is : IsGraph graph
  pub structure : IsGraphOf g.system (Says g.paths f) (reader_of graph)
