use Rattle.std.proofs.Common.{◌≡◌, map, take}
use Rattle.fs_graph.specs.Facts.{path_of}
use Rattle.fs_graph.specs.GraphMap.{reader_of}
use Rattle.sieve.specs.Sketches.{paths_of, type_along, below_place}
use Rattle.sieve.specs.Inner.{numbers_of}
use Rattle.sieve.proofs.paths.types_below.Given as goal

abbrev pub invariant-loop-path : goal.invariant-loop-path
invariant-loop-path l = numbers_of l.types.items ≡ map (type_along (below_place (path_of l.place) (reader_of l.graph))) (paths_of (take l.path-index l.paths))
