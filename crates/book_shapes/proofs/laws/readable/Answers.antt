use Rattle.book_shapes.proofs.ReadableLemmas.{readable}
use Rattle.book_shapes.proofs.laws.readable.Goals as goal

pub returns : goal.returns
returns c = readable
