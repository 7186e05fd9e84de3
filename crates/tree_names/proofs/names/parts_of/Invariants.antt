use Rattle.std.proofs.Common.{◌≡◌, map, take}
use Rattle.book_signs.specs.Trees.{signs_of}
use Rattle.tree_names.specs.TreeGrammars.{part_of}
use Rattle.tree_names.proofs.names.parts_of.Given as goal

abbrev pub invariant-loop-place : goal.invariant-loop-place
invariant-loop-place l = l.parts.items ≡ map part_of (take l.place (signs_of l.signs).instances)
