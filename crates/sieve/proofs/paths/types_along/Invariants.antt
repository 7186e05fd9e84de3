use Rattle.std.proofs.Common.{◌≡◌, map, take}
use Rattle.fs_graph.specs.GraphMap.{reader_of}
use Rattle.sieve.specs.Sketches.{paths_of, type_along}
use Rattle.sieve.specs.Inner.{numbers_of}
use Rattle.sieve.proofs.paths.types_along.Given as goal

abbrev pub invariant-loop-path : goal.invariant-loop-path
invariant-loop-path l = numbers_of l.types.items ≡ map (type_along (reader_of l.graph)) (paths_of (take l.path-index l.paths))
