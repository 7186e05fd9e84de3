use Rattle.std.proofs.Common.{◌≡◌, ◌++◌, map}
use Rattle.lkb_io.specs.Named.{named_files}
use Rattle.self_tests.specs.Made.{file_of}
use Rattle.self_tests.specs.SelfTests.{shelved}
use Rattle.self_tests.proofs.testing.shelf_of.Given as goal

abbrev pub invariant-loop-file : goal.invariant-loop-file
invariant-loop-file l = named_files l.shelf.items ++ map shelved (map file_of l.file-iterator.rest.items) ≡ map shelved (map file_of l.fn.files.items)
