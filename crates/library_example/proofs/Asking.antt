-- The words that are asked have their form.
use Rattle.std.proofs.Common.{◌≡◌, refl, sym, subst, List, [], ◌∷◌, ℕ, codes}
use Rattle.command_line.specs.Words.{IsForm, positional}
use Rattle.library_example.specs.Parsed.{words_asked, form_asked}

asked_form : IsForm words_asked form_asked
asked_form = (codes "grammar" ∷ [], codes "grammar" ∷ [], refl, (positional (codes "grammar") ∷ [], refl, (refl, tt), tt, (refl, tt), refl, refl), refl)

pub have_form : (words : List (List ℕ)) → words ≡ words_asked → IsForm words form_asked
have_form words e = subst (λ w. IsForm w form_asked) (sym e) asked_form
