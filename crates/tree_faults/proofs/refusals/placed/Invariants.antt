use Rattle.std.proofs.Common.{◌≡◌, ◌++◌, map, drop}
use Rattle.book_signs.specs.Trees.{paths_of}
use Rattle.tree_faults.specs.Inner.Structures.{placed_of, pairs_at, placed_with}
use Rattle.tree_faults.proofs.refusals.placed.Given as goal

abbrev pub invariant-loop-i : goal.invariant-loop-i
invariant-loop-i l = map placed_of l.parts.items ++ pairs_at (drop l.i (paths_of l.places)) (drop l.i (map (λ d. d.now) l.graphs)) ≡ placed_with l.structure (paths_of l.places) (map (λ d. d.now) l.graphs)
