use Rattle.std.proofs.Common.{◌≡◌, take}
use Rattle.book_signs.specs.Trees.{paths_of}
use Rattle.engine.proofs.rules.copied.Given as goal

abbrev pub invariant-loop-path : goal.invariant-loop-path
invariant-loop-path l = paths_of l.copies.items ≡ paths_of (take l.path-index l.paths)
