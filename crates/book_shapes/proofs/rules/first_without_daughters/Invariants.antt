use Rattle.book_shapes.specs.Shapes.{instances_of, HasItsDaughters}
use Rattle.book_shapes.proofs.PlaceLemmas.{Before}
use Rattle.book_shapes.proofs.rules.first_without_daughters.Given as goal

abbrev pub invariant-loop-i : goal.invariant-loop-i
invariant-loop-i l = Before (HasItsDaughters l.book) (instances_of l.book) l.i
