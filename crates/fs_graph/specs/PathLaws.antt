-- What is proved of lists of paths.
use Rattle.std.specs.Prelude.{◌≡◌, List}
use Rattle.fs_model.specs.Sources.{Reader, IsSameStructure}
use Rattle.fs_graph.specs.Facts.{Line}
use Rattle.fs_graph.specs.PathLists.{IsPathList}

-- one structure has one list of paths
abbrev pub ListsAreOne : Type 0
ListsAreOne = (a b : Reader) (l m : List Line) → IsSameStructure a b → IsPathList a l → IsPathList b m → l ≡ m
