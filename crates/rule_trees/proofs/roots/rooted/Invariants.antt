use Rattle.std.proofs.Common.{take}
use Rattle.book_signs.specs.Trees.{signs_of, roots_of}
use Rattle.rule_trees.specs.Mothers.{graph_view}
use Rattle.rule_trees.proofs.RootLemmas.{NoneRooted}
use Rattle.rule_trees.proofs.roots.rooted.Given as goal

abbrev pub invariant-loop-i : goal.invariant-loop-i
invariant-loop-i l = NoneRooted (signs_of l.signs) (graph_view l.signs l.graph) (take l.i (roots_of (signs_of l.signs)))
