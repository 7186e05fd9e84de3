use Rattle.std.proofs.Common.{◌≡◌, ◌∙◌, ◌++◌, List, [], ◌∷◌, map, string_bytes, refl, sym, ap}
use Rattle.std.specs.Prelude.{encode_utf8_all}
use Rattle.std.specs.Str.{chars}
use Rattle.std.proofs.lemmas.Str.{chars_from_encodes}
use Rattle.caseless.specs.Caseless.{default_case_fold}
use Rattle.closed_lists.specs.Names.{words_in}
use Rattle.closed_lists.specs.Strings.{words}
use Rattle.closed_lists.proofs.words.add_words.Goals as goal

mapped : {A B C : Type 0} (f : A → B) (g : B → C) (xs : List A) → map (λ x. g (f x)) xs ≡ map g (map f xs)
mapped f g [] = refl
mapped f g (x ∷ xs) = ap (λ l. g (f x) ∷ l) (mapped f g xs)

pub returns : goal.returns
returns c =
    let folds = default_case_fold (chars c.args.text.now) in
    let letters : c.in_ok-letters.letters.items ≡ folds =
    c.in_ok-letters.ensures ∙ sym (chars_from_encodes folds c.as_str.result.now c.as_str.utf8 (sym (c.as_str.ensures.value ∙ c.in_ok-folded.ensures))) in
    c.in_ok-push_words.ensures
    ∙ ap (λ l. words_in c.args.out.now ++ l)
    (ap (map (λ w. encode_utf8_all w.now)) c.deref-2.ensures.value ∙ mapped (λ w. w.now) encode_utf8_all c.in_ok-words.words.items
    ∙ ap (map encode_utf8_all) (c.in_ok-words.ensures ∙ ap words (c.deref.ensures.value ∙ letters)))
