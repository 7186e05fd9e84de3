-- What looking asks for.
use Rattle.std.specs.Prelude.{◌<◌, All, IfSome}
use Rattle.fs_graph.specs.GraphMap.{GraphMap}
use Rattle.type_hierarchy.specs.Table.{TypeTable, count_of}
use Rattle.mrs_places.specs.Paths.{Paths}

-- the types of lists, and those of the structure, are types of the grammar
pub record IsTyped (types : TypeTable) (p : Paths) (g : GraphMap) : Type 0 where
  pub types_in : All (λ t. t < count_of types) g.types
  pub cons_in : IfSome p.cons (λ t. t < count_of types)
  pub null_in : IfSome p.null (λ t. t < count_of types)
