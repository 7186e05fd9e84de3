use Rattle.std.proofs.Common.{◌∙◌, ap, map}
use Rattle.book_signs.specs.Trees.{signs_of, places_where, entries_of, is_entry}
use Rattle.book_signs.specs.Trees.{SignTree, paths_of}
use Rattle.book_signs.proofs.SignLemmas.{kinds_kept}
use Rattle.book_signs.proofs.signs.SignBook.entries.Goals as goal

pub returns : goal.returns
returns c =
    c.deref.ensures.value ∙ c.self.invariant.kinds_are.entries ∙ ap (places_where is_entry 0) (kinds_kept c.self.inside.book.now (map (λ p. paths_of p.items) c.self.inside.places.items) c.self.invariant.placed)
    ∙ ap (λ (t : SignTree). entries_of (signs_of t)) c.self.view_is
