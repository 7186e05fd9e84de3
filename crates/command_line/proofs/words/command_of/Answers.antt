use Rattle.std.proofs.Common.{◌≡◌, ◌∙◌, sym, ap, subst, List, ℕ, None, map, string_bytes, ◌∷◌, option_map, drop, take, length, ◌-◌, String, Global}
use Rattle.std.proofs.lemmas.Result.{IfErr-weaker}
use Rattle.command_line.specs.Words.{run, IsForm}
use Rattle.command_line.specs.Commands.{form}
use Rattle.command_line.specs.Inner.Reading.{told_form}
use Rattle.command_line.proofs.Choosing.{first-word}
use Rattle.command_line.proofs.Telling.{told-is, no-form}
use Rattle.command_line.proofs.words.command_of.Goals as goal

pub returns-in-Some-clause-ok : goal.returns-in-Some-clause-ok
returns-in-Some-clause-ok c = told-is (map (λ w. string_bytes w) c.args.words.now) (form c.in-Some.command) (sym c.told.ensures ∙ ap (option_map form) c.in-Some.is)

pub returns-in-len1-up-clause-usage : goal.returns-in-len1-up-clause-usage
returns-in-len1-up-clause-usage c =
    let f = λ (w : String Global). string_bytes w in
    let words = map f c.args.words.now in
    let none : told_form words ≡ None = sym c.told.ensures ∙ ap (option_map form) c.in_default.is in
    let cut : words ≡ c.deref.result.now ∷ map f (take (length c.args.words.now - 1) (drop 1 c.args.words.now)) = first-word f c.args.words.now c.word-item.result c.in-len1-up.len_at_least c.word-item.is ∙ ap (λ (w : List ℕ). w ∷ map f (take (length c.args.words.now - 1) (drop 1 c.args.words.now))) (sym c.deref.ensures) in
    IfErr-weaker c.command_by.result _ _ (λ e h usage g is. no-form words none (λ t options x. h usage t options (subst (λ (ws : List (List ℕ)). IsForm ws (run t options)) cut x)) g is) c.command_by.ensures.usage
