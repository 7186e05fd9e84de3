use Rattle.std.proofs.Common.{rules, arith, ◌≡◌, ◌∙◌, ◌+◌, ◌-◌, ◌<◌, ◌≤◌, ◌++◌, ◌==◌, ◌&&◌, ◌⊎◌, inl, inr, ℕ, Bool, true, false, cond, List, [], ◌∷◌, length, map, filter, take, drop, get_or, Option, Some, None, string_bytes, refl, sym, ap, subst}
use Rattle.spelling_rules.proofs.Lists.{filled}
use Rattle.spelling_rules.proofs.FormLemmas.{rule_kept, bound_at, forms_one}
use Rattle.spelling_rules.proofs.TableLemmas.{candidates_there, inflect_there, kept_put}
use Rattle.spelling_rules.specs.Views.{sign_of, group_of, rule_of, line_of, words_in, letters_in}
use Rattle.std.proofs.lemmas.List.{length-map}
use Rattle.lexicon.specs.Words.{Word, Has, Each}
use Rattle.spelling_rules.specs.Trees.{IsBound}
use Rattle.spelling_rules.specs.Forms.{rule_at, HasForm, AreForms}
use Rattle.spelling_rules.specs.Inner.Tables.{pair_of}
use Rattle.spelling_rules.specs.Inner.Undoing.{HasStems}
use Rattle.std.specs.Prelude.{encode_utf8_all}
use Rattle.spelling_rules.proofs.Lists.{empty_list}
use Rattle.spelling_rules.proofs.TableLemmas.{kept_known, among_Has}
use Rattle.spelling_rules.specs.Inner.Tables.{is_among}
use Rattle.spelling_rules.proofs.spelling.Spelling.keep.Goals as goal

pub returns-then-is_empty : goal.returns-then-is_empty
returns-then-is_empty c =
    kept_known c.args.self.now c.args.rule c.args.form.now (string_bytes c.args.stem.now) (words_in c.args.out.now)
    (λ is. absurd (let none = empty_list c.args.stem.now.bytes.items _ c.args.stem.now.bytes.ok.0 (sym c.is_empty.ensures ∙ c.if-is_empty.true) in
    let z : 0 < 0 = subst (λ l. 0 < length l) none is.0 in omega arith))

pub returns-then-is_among : goal.returns-then-is_among
returns-then-is_among c =
    kept_known c.args.self.now c.args.rule c.args.form.now (string_bytes c.args.stem.now) (words_in c.args.out.now)
    (λ _. among_Has (string_bytes c.args.stem.now) (words_in c.args.out.now) (ap (λ l. is_among (map string_bytes l) (string_bytes c.args.stem.now)) (sym c.deref.ensures.value) ∙ sym c.is_among.ensures ∙ c.if-is_among.true))

pub returns-in_ok-put : goal.returns-in_ok-put
returns-in_ok-put c =
    let e = c.is_empty.ensures in
    let has : HasForm c.args.self.now c.args.rule (string_bytes c.args.stem.now) c.args.form.now = subst (λ w. HasForm c.args.self.now c.args.rule w c.args.form.now) c.as_str.ensures.value (c.in_ok-has_form.ensures.0 c.if-branch.true) in
    kept_put c.args.self.now c.args.rule c.args.form.now (string_bytes c.args.stem.now) (string_bytes c.in_ok-clone.field-0) (words_in c.args.out.now) (words_in c.put.new.list) c.in_ok-put.ensures c.in_ok-clone.ensures.cases (filled c.args.stem.now.bytes.items _ c.args.stem.now.bytes.ok.0 (sym e ∙ c.if-is_empty.false), has)
