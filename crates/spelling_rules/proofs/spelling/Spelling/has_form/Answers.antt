use Rattle.std.proofs.Common.{rules, arith, ◌≡◌, ◌∙◌, ◌+◌, ◌<◌, ◌≤◌, ◌++◌, ◌==◌, ◌↔◌, IsTrue, inl, inr, ℕ, Bool, true, false, List, [], ◌∷◌, length, map, take, get_or, Option, Some, None, string_bytes, refl, sym, ap, subst}
use Rattle.std.specs.Prelude.{encode_utf8_all}
use Rattle.std.proofs.lemmas.List.{length-map}
use Rattle.lexicon.specs.Words.{Has, Each}
use Rattle.spelling_rules.specs.Trees.{IsBound, SpellingTree}
use Rattle.spelling_rules.specs.Forms.{rule_at, HasForm}
use Rattle.spelling_rules.specs.Views.{rule_of, line_of, words_in}
use Rattle.spelling_rules.specs.Inner.Rewriting.{forms_with, regular_forms}
use Rattle.spelling_rules.specs.Inner.Tables.{pair_of}
use Rattle.spelling_rules.proofs.Lists.{empty_list, filled}
use Rattle.spelling_rules.proofs.FormLemmas.{rule_kept, bound_at}
use Rattle.spelling_rules.proofs.TableLemmas.{form_had, listed_first}
use Rattle.spelling_rules.proofs.spelling.Spelling.has_form.Goals as goal

pub returns-then-not-is_empty : goal.returns-then-not-is_empty
returns-then-not-is_empty c =
    let s : SpellingTree = record { rules = map rule_of c.self.inside.rules.items; lines = map line_of c.self.inside.lines.items } in
    let lt : c.args.rule < length s.rules = omega (arith, ap (λ t. length t.rules) c.self.view_is) in
    let r = rule_at s.rules c.args.rule in
    let listed = words_in c.in_ok-listed.listed in
    let u = c.utf8.stem in
    let had = form_had s c.args.rule r c.args.stem.now c.args.form.now u.0 (map pair_of c.noted.result.now) listed refl (bound_at s.rules c.args.rule lt c.self.invariant.bound)
    (ap (map pair_of) c.noted.ensures ∙ c.self.invariant.table.stems c.args.stem.now) c.in_ok-listed.ensures (sym u.1.1) in
    let some = filled c.in_ok-listed.listed.items _ c.in_ok-listed.listed.ok.0 (sym c.is_empty.ensures ∙ c.if-not-is_empty.true) in
    let all : forms_with r listed u.0 ≡ map string_bytes c.deref.result.now =
    listed_first r listed u.0 (omega (arith, some, length-map c.in_ok-listed.listed.items string_bytes)) ∙ ap (map string_bytes) (sym c.deref.ensures.value) in
    subst (λ t. IsTrue c.has_word.result ↔ HasForm t c.args.rule c.args.stem.now c.args.form.now) c.self.view_is
    (λ t. had.back (subst (Has c.args.form.now) (sym all) (c.has_word.ensures.0 t)), λ h. c.has_word.ensures.1 (subst (Has c.args.form.now) all (had.there h)))

pub returns : goal.returns
returns c =
    let s : SpellingTree = record { rules = map rule_of c.self.inside.rules.items; lines = map line_of c.self.inside.lines.items } in
    let size : c.args.rule < length c.self.inside.rules.items = omega (arith, ap (λ t. length t.rules) c.self.view_is, length-map c.self.inside.rules.items rule_of) in
    let lt : c.args.rule < length s.rules = omega (arith, length-map c.self.inside.rules.items rule_of) in
    let r = rule_of c.index.result.now in
    let at : rule_at s.rules c.args.rule ≡ r = rule_kept c.self.inside.rules.items c.args.rule c.index.result.now size c.index.ensures in
    let bound : Each IsBound r.groups = subst (λ t. Each IsBound t.groups) at (bound_at s.rules c.args.rule lt c.self.invariant.bound) in
    let letters = c.in_ok-stem_letters.stem_letters.items in
    let had = form_had s c.args.rule r c.args.stem.now c.args.form.now letters (map pair_of c.noted.result.now) (words_in c.in_ok-listed.listed) at bound
    (ap (map pair_of) c.noted.ensures ∙ c.self.invariant.table.stems c.args.stem.now) c.in_ok-listed.ensures c.in_ok-stem_letters.ensures in
    let none : words_in c.in_ok-listed.listed ≡ [] = ap (map string_bytes) (empty_list c.in_ok-listed.listed.items _ c.in_ok-listed.listed.ok.0 (sym c.is_empty.ensures ∙ c.if-not-is_empty.false)) in
    let all : forms_with r (words_in c.in_ok-listed.listed) letters ≡ regular_forms r.suffix r.groups c.deref-2.result.now =
    ap (λ l. forms_with r l letters) none ∙ ap (regular_forms r.suffix r.groups) (sym c.deref-2.ensures.value) in
    subst (λ t. IsTrue c.in_ok-made.made ↔ HasForm t c.args.rule c.args.stem.now c.args.form.now) c.self.view_is (
      λ t. had.back (subst (Has c.args.form.now) (sym all) (subst (λ f. Has f (regular_forms r.suffix r.groups c.deref-2.result.now)) (sym c.requires.spelled) (c.in_ok-made.ensures.0 t))),
      λ h. c.in_ok-made.ensures.1 (subst (λ f. Has f (regular_forms r.suffix r.groups c.deref-2.result.now)) c.requires.spelled (subst (Has c.args.form.now) all (had.there h))),
    )
