-- What is proved of MRSs of structures as they are defined.
use Rattle.std.specs.Prelude.{◌≡◌}
use Rattle.fs_graph.specs.GraphMap.{GraphMap}
use Rattle.type_hierarchy.specs.Table.{TypeTable}
use Rattle.mrs_model.specs.Meanings.{Meaning}
use Rattle.mrs_places.specs.Paths.{Paths}
use Rattle.mrs_places.specs.Looking.{Sought}
use Rattle.mrs_extract.specs.Extraction.{Extracts}

-- A structure has one outcome: the same MRS, variable by variable, or the same path that is missing, and never both.
abbrev pub MrsIsOne : Type 0
MrsIsOne = (g : GraphMap) (types : TypeTable) (p : Paths) (a b : Sought Meaning) → Extracts g types p a → Extracts g types p b → a ≡ b
