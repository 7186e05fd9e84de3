-- What is proved of looking as it is defined.
use Rattle.std.specs.Prelude.{◌≡◌}
use Rattle.fs_graph.specs.GraphMap.{GraphMap}
use Rattle.type_hierarchy.specs.Table.{TypeTable}
use Rattle.mrs_places.specs.Paths.{Paths}
use Rattle.mrs_places.specs.Looking.{Sought, Parts, Looks}

-- A structure has one outcome: the same parts, or the same path that is missing, and never both.
abbrev pub OutcomesAreOne : Type 0
OutcomesAreOne = (g : GraphMap) (types : TypeTable) (p : Paths) (a b : Sought Parts) → Looks g types p a → Looks g types p b → a ≡ b
