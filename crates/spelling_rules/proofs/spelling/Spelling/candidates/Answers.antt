use Rattle.std.proofs.Common.{rules, arith, ◌≡◌, ◌∙◌, ◌+◌, ◌-◌, ◌<◌, ◌≤◌, ◌++◌, ◌==◌, ◌&&◌, ◌⊎◌, inl, inr, ℕ, Bool, true, false, cond, List, [], ◌∷◌, length, map, filter, take, drop, get_or, Option, Some, None, string_bytes, refl, sym, ap, subst}
use Rattle.spelling_rules.proofs.FormLemmas.{rule_kept, bound_at, forms_one}
use Rattle.spelling_rules.proofs.TableLemmas.{candidates_there, inflect_there, kept_put}
use Rattle.spelling_rules.specs.Views.{sign_of, group_of, rule_of, line_of, words_in, letters_in}
use Rattle.std.proofs.lemmas.List.{length-map}
use Rattle.lexicon.specs.Words.{Word, Has, Each}
use Rattle.spelling_rules.specs.Trees.{IsBound}
use Rattle.spelling_rules.specs.Forms.{rule_at, HasForm, AreForms}
use Rattle.spelling_rules.specs.Inner.Tables.{pair_of}
use Rattle.spelling_rules.specs.Inner.Undoing.{HasStems}
use Rattle.std.specs.Prelude.{encode_utf8_all}
use Rattle.spelling_rules.specs.Inner.Tables.{lines_with}
use Rattle.spelling_rules.proofs.spelling.Spelling.candidates.Goals as goal

pub add_stems-requires-clause-bound : goal.add_stems-requires-clause-bound
add_stems-requires-clause-bound c =
    let s = c.self.inside in
    let size : c.args.rule < length c.self.inside.rules.items = omega (arith, ap (λ t. length t.rules) c.self.view_is, length-map c.self.inside.rules.items rule_of) in
    let r = rule_of c.index.result.now in
    let at : rule_at (map rule_of c.self.inside.rules.items) c.args.rule ≡ rule_of c.index.result.now = rule_kept c.self.inside.rules.items c.args.rule c.index.result.now size c.index.ensures in
    let lt : c.args.rule < length (map rule_of c.self.inside.rules.items) = omega (arith, length-map c.self.inside.rules.items rule_of) in
    let bound : Each IsBound (rule_of c.index.result.now).groups = subst (λ t. Each IsBound t.groups) at (bound_at (map rule_of c.self.inside.rules.items) c.args.rule lt c.self.invariant.bound) in
    bound

pub returns : goal.returns
returns c =
    let s = c.self.inside in
    let size : c.args.rule < length c.self.inside.rules.items = omega (arith, ap (λ t. length t.rules) c.self.view_is, length-map c.self.inside.rules.items rule_of) in
    let r = rule_of c.index.result.now in
    let at : rule_at (map rule_of c.self.inside.rules.items) c.args.rule ≡ rule_of c.index.result.now = rule_kept c.self.inside.rules.items c.args.rule c.index.result.now size c.index.ensures in
    let lt : c.args.rule < length (map rule_of c.self.inside.rules.items) = omega (arith, length-map c.self.inside.rules.items rule_of) in
    let bound : Each IsBound (rule_of c.index.result.now).groups = subst (λ t. Each IsBound t.groups) at (bound_at (map rule_of c.self.inside.rules.items) c.args.rule lt c.self.invariant.bound) in
    subst (λ t. HasStems t c.args.rule c.args.form.now (words_in c.add_stems.new.out)) c.self.view_is
    (candidates_there _ c.args.rule r c.args.form.now (map pair_of c.args.lines.now) (words_in c.in_ok-out.out) (words_in c.add_stems.new.out) at
    (c.requires.looked_up ∙ ap (λ t. lines_with c.args.form.now t.lines) (sym c.self.view_is)) c.in_ok-out.ensures c.in_ok-add_stems.ensures.kept c.in_ok-add_stems.ensures.added)
