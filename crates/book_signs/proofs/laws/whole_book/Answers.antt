use Rattle.book_signs.proofs.LawLemmas.{whole}
use Rattle.book_signs.proofs.laws.whole_book.Goals as goal

pub returns : goal.returns
returns c = whole
