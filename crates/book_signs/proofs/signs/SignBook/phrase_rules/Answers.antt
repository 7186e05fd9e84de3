use Rattle.std.proofs.Common.{◌∙◌, ap, map}
use Rattle.tree_model.specs.Signs.{is_phrase_rule}
use Rattle.book_signs.specs.Trees.{signs_of, places_where, phrase_rules_of}
use Rattle.book_signs.specs.Trees.{SignTree, paths_of}
use Rattle.book_signs.proofs.SignLemmas.{kinds_kept}
use Rattle.book_signs.proofs.signs.SignBook.phrase_rules.Goals as goal

pub returns : goal.returns
returns c =
    c.deref.ensures.value ∙ c.self.invariant.kinds_are.phrase_rules ∙ ap (places_where is_phrase_rule 0) (kinds_kept c.self.inside.book.now (map (λ p. paths_of p.items) c.self.inside.places.items) c.self.invariant.placed)
    ∙ ap (λ (t : SignTree). phrase_rules_of (signs_of t)) c.self.view_is
