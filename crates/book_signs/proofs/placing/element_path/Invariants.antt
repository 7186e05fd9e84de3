use Rattle.std.proofs.Common.{◌≡◌, ◌++◌}
use Rattle.std.specs.Prelude.{replicate}
use Rattle.fs_graph.specs.Facts.{path_of}
use Rattle.book_signs.proofs.placing.element_path.Given as goal

abbrev pub invariant-loop-before : goal.invariant-loop-before
invariant-loop-before l = path_of l.path.items ≡ path_of l.list ++ replicate l._before l.rest.0
