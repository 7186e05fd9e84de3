use Rattle.std.proofs.Common.{arith, ◌≡◌, ◌∙◌, ◌<◌, [], length, map, string_bytes, sym, ap}
use Rattle.std.proofs.lemmas.List.{length-map}
use Rattle.std.proofs.lemmas.Str.{encodes_same}
use Rattle.spelling_rules.specs.Inner.Rewriting.{by_groups, words_made, forms_with}
use Rattle.spelling_rules.specs.Views.{group_of, rule_of, words_in}
use Rattle.spelling_rules.proofs.FormLemmas.{with_groups}
use Rattle.spelling_rules.proofs.Lists.{empty_list, filled}
use Rattle.spelling_rules.proofs.regular.forms_of.Goals as goal

pub returns : goal.returns
returns c = λ letters e.
    let rule = rule_of c.args.rule.now in
    let none : words_in c.args.listed ≡ [] = ap (map string_bytes) (empty_list c.args.listed.items _ c.args.listed.ok.0 (sym c.is_empty.ensures ∙ c.if-not-is_empty.false)) in
    let same = length-map c.args.rule.now.groups.items group_of in
    let some = filled c.args.rule.now.groups.items _ c.args.rule.now.groups.ok.0 (sym c.is_empty-2.ensures ∙ c.if-is_empty.false) in
    let groups : 0 < length rule.groups = omega (arith, same, some) in
    let mine : c.deref-2.result.now ≡ letters = c.deref-2.ensures.value ∙ encodes_same c.in_ok-letters.letters.items letters (sym c.in_ok-letters.ensures ∙ e) in
    c.in_ok-words.ensures
    ∙ ap words_made (c.in_ok-made.ensures ∙ ap (λ g. by_groups c.args.rule.now.suffix (map group_of g) c.deref-2.result.now) c.deref.ensures.value ∙ ap (by_groups c.args.rule.now.suffix rule.groups) mine)
    ∙ sym (ap (λ l. forms_with rule l letters) none ∙ with_groups rule.suffix rule.groups letters groups)
