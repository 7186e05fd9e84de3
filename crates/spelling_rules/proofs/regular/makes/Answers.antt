use Rattle.std.proofs.Common.{arith, ◌≡◌, ◌∙◌, ◌<◌, ◌==◌, [], ◌∷◌, length, map, Some, true, false, refl, sym, ap, subst}
use Rattle.std.specs.Prelude.{encode_utf8_all}
use Rattle.std.specs.Option.{option_map}
use Rattle.std.proofs.lemmas.List.{length-map}
use Rattle.lexicon.specs.Words.{Has}
use Rattle.lexicon.proofs.WordLemmas.{bytes_eq-same, bytes_eq-refl}
use Rattle.spelling_rules.specs.Inner.Rewriting.{by_groups, words_made, regular_forms}
use Rattle.spelling_rules.specs.Views.{group_of, letters_in}
use Rattle.spelling_rules.proofs.Lists.{empty_list, filled, true_not_false}
use Rattle.spelling_rules.proofs.FormLemmas.{with_groups, never_empty, word_made, made_word, own_word, word_own}
use Rattle.spelling_rules.proofs.regular.makes.Goals as goal

pub returns-then-is_empty : goal.returns-then-is_empty
returns-then-is_empty c =
    let groups = map group_of c.args.rule.now.groups.items in
    let none = ap (map group_of) (empty_list c.args.rule.now.groups.items _ c.args.rule.now.groups.ok.0 (sym c.is_empty.ensures ∙ c.if-is_empty.true)) in (
      λ t. own_word c.args.rule.now.suffix groups c.args.stem.now c.args.form.now none (bytes_eq-same c.args.stem.now c.args.form.now (sym c.eq.ensures ∙ t)),
      λ h. c.eq.ensures ∙ bytes_eq-refl c.args.stem.now c.args.form.now (word_own c.args.rule.now.suffix groups c.args.stem.now c.args.form.now none h),
    )

pub returns-then-is_empty-2 : goal.returns-then-is_empty-2
returns-then-is_empty-2 c =
    let groups = map group_of c.args.rule.now.groups.items in
    let some = filled c.args.rule.now.groups.items _ c.args.rule.now.groups.ok.0 (sym c.is_empty.ensures ∙ c.if-is_empty.false) in
    let all = with_groups c.args.rule.now.suffix groups c.args.stem.now (omega (arith, some, length-map c.args.rule.now.groups.items group_of)) in
    let none : c.args.form.now ≡ [] = empty_list c.args.form.now _ refl (sym c.is_empty-2.ensures ∙ c.if-is_empty-2.true) in (
      λ t. true_not_false false t refl,
      λ h. absurd (never_empty (by_groups c.args.rule.now.suffix groups c.args.stem.now) (subst (λ f. Has (encode_utf8_all f) (words_made (by_groups c.args.rule.now.suffix groups c.args.stem.now))) none (subst (Has (encode_utf8_all c.args.form.now)) all h))),
    )

pub returns-in-Some : goal.returns-in-Some
returns-in-Some c =
    let groups = map group_of c.args.rule.now.groups.items in
    let some = filled c.args.rule.now.groups.items _ c.args.rule.now.groups.ok.0 (sym c.is_empty.ensures ∙ c.if-is_empty.false) in
    let letters = filled c.args.form.now _ refl (sym c.is_empty-2.ensures ∙ c.if-is_empty-2.false) in
    let made : by_groups c.args.rule.now.suffix groups c.args.stem.now ≡ Some c.in-Some.made.items =
    ap (λ g. by_groups c.args.rule.now.suffix (map group_of g) c.args.stem.now) (sym c.deref.ensures.value) ∙ sym c.in_ok-by_groups.ensures ∙ ap (option_map letters_in) c.in-Some.is in
    let all : regular_forms c.args.rule.now.suffix groups c.args.stem.now ≡ words_made (Some c.in-Some.made.items) =
    with_groups c.args.rule.now.suffix groups c.args.stem.now (omega (arith, some, length-map c.args.rule.now.groups.items group_of)) ∙ ap words_made made in (
      λ t. subst (Has (encode_utf8_all c.args.form.now)) (sym all) (word_made c.in-Some.made.items c.args.form.now letters (sym c.as_slice.ensures.value ∙ bytes_eq-same c.as_slice.result.now c.args.form.now (sym c.eq-in-Some.ensures ∙ t))),
      λ h. c.eq-in-Some.ensures ∙ bytes_eq-refl c.as_slice.result.now c.args.form.now (c.as_slice.ensures.value ∙ made_word c.in-Some.made.items c.args.form.now (subst (Has (encode_utf8_all c.args.form.now)) all h)),
    )
