use Rattle.std.proofs.Common.{◌≡◌, map}
use Rattle.std.specs.List.{range_with_len}
use Rattle.fs_graph.specs.Facts.{path_of}
use Rattle.book_signs.specs.Signed.{element_path}
use Rattle.book_signs.specs.Trees.{paths_of}
use Rattle.book_signs.proofs.placing.element_paths.Given as goal

abbrev pub invariant-loop-k : goal.invariant-loop-k
invariant-loop-k l = paths_of l.paths.items ≡ map (element_path (path_of l.list) l.first.0 l.rest.0) (range_with_len 0 l.k)
