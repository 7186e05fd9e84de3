use Rattle.std.proofs.Common.{◌∙◌, ap, map}
use Rattle.book_signs.specs.Trees.{signs_of, places_where, lexical_rules_of, is_lexical_rule}
use Rattle.book_signs.specs.Trees.{SignTree, paths_of}
use Rattle.book_signs.proofs.SignLemmas.{kinds_kept}
use Rattle.book_signs.proofs.signs.SignBook.lexical_rules.Goals as goal

pub returns : goal.returns
returns c =
    c.deref.ensures.value ∙ c.self.invariant.kinds_are.lexical_rules ∙ ap (places_where is_lexical_rule 0) (kinds_kept c.self.inside.book.now (map (λ p. paths_of p.items) c.self.inside.places.items) c.self.invariant.placed)
    ∙ ap (λ (t : SignTree). lexical_rules_of (signs_of t)) c.self.view_is
