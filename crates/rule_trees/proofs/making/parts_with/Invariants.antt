use Rattle.std.proofs.Common.{◌≡◌, ◌++◌, map, drop}
use Rattle.book_signs.specs.Trees.{paths_of}
use Rattle.rule_trees.specs.Inner.Placed.{daughters_at, placed_with}
use Rattle.rule_trees.proofs.making.parts_with.Given as goal

abbrev pub invariant-loop-i : goal.invariant-loop-i
invariant-loop-i l = l.parts ++ daughters_at l.owed (drop l.i (paths_of l.places)) (drop l.i (map (λ d. d.now) l.daughters)) ≡ placed_with l.owed l.structure (paths_of l.places) (map (λ d. d.now) l.daughters)
