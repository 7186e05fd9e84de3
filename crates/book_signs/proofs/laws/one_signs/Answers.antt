use Rattle.book_signs.proofs.LawLemmas.{only}
use Rattle.book_signs.proofs.laws.one_signs.Goals as goal

pub returns : goal.returns
returns c = only
