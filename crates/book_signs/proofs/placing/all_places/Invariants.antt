use Rattle.std.proofs.Common.{map, take}
use Rattle.std.specs.List.{AllZip}
use Rattle.book_shapes.specs.Shapes.{instances_of}
use Rattle.book_signs.specs.Signed.{ArePlaces}
use Rattle.book_signs.specs.Trees.{paths_of}
use Rattle.book_signs.proofs.placing.all_places.Given as goal

abbrev pub invariant-loop-i : goal.invariant-loop-i
invariant-loop-i l = AllZip (ArePlaces l.book) (take l.i (instances_of l.book)) (map (λ p. paths_of p.items) l.all.items)
