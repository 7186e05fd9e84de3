use Rattle.std.proofs.Common.{rules, arith, ◌≡◌, ◌∙◌, ◌+◌, ◌-◌, ◌<◌, ◌≤◌, ◌++◌, ◌==◌, ◌&&◌, ◌⊎◌, inl, inr, ℕ, Bool, true, false, cond, List, [], ◌∷◌, length, map, filter, take, drop, get_or, Option, Some, None, string_bytes, refl, sym, ap, subst}
use Rattle.spelling_rules.proofs.FormLemmas.{rule_kept, bound_at, forms_one}
use Rattle.spelling_rules.proofs.TableLemmas.{candidates_there, inflect_there, kept_put}
use Rattle.spelling_rules.specs.Views.{sign_of, group_of, rule_of, line_of, words_in, letters_in}
use Rattle.std.proofs.lemmas.List.{length-map}
use Rattle.lexicon.specs.Words.{Word, Has, Each}
use Rattle.spelling_rules.specs.Trees.{IsBound}
use Rattle.spelling_rules.specs.Forms.{rule_at, HasForm, AreForms}
use Rattle.spelling_rules.specs.Inner.Tables.{pair_of}
use Rattle.spelling_rules.specs.Inner.Undoing.{HasStems}
use Rattle.std.specs.Prelude.{encode_utf8_all}
use Rattle.spelling_rules.proofs.spelling.Spelling.inflect.Goals as goal

pub returns : goal.returns
returns c =
    let s = c.self.inside in
    let size : c.args.rule < length c.self.inside.rules.items = omega (arith, ap (λ t. length t.rules) c.self.view_is, length-map c.self.inside.rules.items rule_of) in
    let r = rule_of c.index.result.now in
    let at : rule_at (map rule_of c.self.inside.rules.items) c.args.rule ≡ rule_of c.index.result.now = rule_kept c.self.inside.rules.items c.args.rule c.index.result.now size c.index.ensures in
    let lt : c.args.rule < length (map rule_of c.self.inside.rules.items) = omega (arith, length-map c.self.inside.rules.items rule_of) in
    let bound : Each IsBound (rule_of c.index.result.now).groups = subst (λ t. Each IsBound t.groups) at (bound_at (map rule_of c.self.inside.rules.items) c.args.rule lt c.self.invariant.bound) in
    let u = c.utf8.stem in
    subst (λ t. AreForms t c.args.rule c.args.stem.now (words_in c.in_ok-forms.forms)) c.self.view_is
    (inflect_there _ c.args.rule r c.args.stem.now u.0 (map pair_of c.noted.result.now) (words_in c.in_ok-listed.listed) (words_in c.in_ok-forms.forms) at bound
    (ap (map pair_of) c.noted.ensures ∙ c.self.invariant.table.stems c.args.stem.now) c.in_ok-listed.ensures (sym u.1.1) (c.in_ok-forms.ensures u.0 (sym u.1.1)))
