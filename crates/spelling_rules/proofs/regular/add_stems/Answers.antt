use Rattle.std.proofs.Common.{rules, arith, ◌≡◌, ◌∙◌, ◌+◌, ◌-◌, ◌<◌, ◌≤◌, ◌++◌, ◌==◌, ◌&&◌, ◌⊎◌, inl, inr, ℕ, Bool, true, false, cond, List, [], ◌∷◌, length, map, filter, take, drop, get_or, Option, Some, None, string_bytes, refl, sym, ap, subst}
use Rattle.spelling_rules.proofs.Lists.{Has-left, Has-right, empty_list, filled}
use Rattle.spelling_rules.proofs.UndoLemmas.{regular_stem, group_kept, bound_group, itself_only}
use Rattle.spelling_rules.specs.Views.{sign_of, group_of, rule_of, line_of, words_in, letters_in}
use Rattle.std.specs.Prelude.{encode_utf8_all}
use Rattle.std.proofs.lemmas.List.{map-append, length-map}
use Rattle.lexicon.specs.Words.{Word, Has, Each}
use Rattle.spelling_rules.specs.Forms.{Rewrites}
use Rattle.spelling_rules.specs.Trees.{IsBound}
use Rattle.spelling_rules.specs.Inner.Keeping.{group_at}
use Rattle.std.proofs.Common.{below_more}
use Rattle.spelling_rules.proofs.regular.add_stems.Goals as goal

pub returns-then-is_empty-clause-kept : goal.returns-then-is_empty-clause-kept
returns-then-is_empty-clause-kept c = λ w h.
    let grown = ap (map string_bytes) c.in_ok-push.ensures.items ∙ map-append string_bytes c.args.out.now.items (c.in_ok-from_str.field-0 ∷ []) in
    subst (Has w) (sym grown) (Has-left w (words_in c.args.out.now) (string_bytes c.in_ok-from_str.field-0 ∷ []) h)

pub returns-then-is_empty-clause-added : goal.returns-then-is_empty-clause-added
returns-then-is_empty-clause-added c = λ w forms r h.
    let e = c.is_empty.ensures in
    let grown = ap (map string_bytes) c.in_ok-push.ensures.items ∙ map-append string_bytes c.args.out.now.items (c.in_ok-from_str.field-0 ∷ []) in
    subst (Has w) (sym grown) (Has-right w (words_in c.args.out.now) (string_bytes c.in_ok-from_str.field-0 ∷ []) (inl (itself_only (rule_of c.args.rule.now) c.args.form.now w forms (ap (map group_of) (empty_list c.args.rule.now.groups.items _ c.args.rule.now.groups.ok.0 (sym e ∙ c.if-is_empty.true))) r h ∙ sym c.in_ok-from_str.ensures.ok)))

pub undo-requires : goal.undo-requires
undo-requires c =
    bound_group c.deref-group-items.result.now c.loop-group.group-index c.group-item.result (subst (λ l. Each IsBound (map group_of l)) (sym c.deref-group-items.ensures.value) c.requires.bound) c.loop-group-test.true c.group-item.is

pub loop-group-preserved : goal.loop-group-preserved
loop-group-preserved c =
    let G = map group_of c.args.rule.now.groups.items in
    let enc = encode_utf8_all c.args.letters.now in
    let here : group_at G c.loop-group.group-index ≡ group_of c.group-item.result =
    ap (λ l. group_at (map group_of l) c.loop-group.group-index) (sym c.deref-group-items.ensures.value) ∙ group_kept c.deref-group-items.result.now c.loop-group.group-index c.group-item.result c.loop-group-test.true c.group-item.is in
    record {
      kept = λ w h. c.in_ok-undo.ensures.kept w (c.loop-group.invariant.kept w h);
      added = λ w.
          below_more (λ k. Rewrites c.args.rule.now.suffix (group_at G k) w enc → Has w (words_in c.undo.new.out)) c.loop-group.group-index
          (λ k lt r. c.in_ok-undo.ensures.kept w (c.loop-group.invariant.added w k lt r))
          (λ r. c.in_ok-undo.ensures.added w (subst (λ g. Rewrites c.args.rule.now.suffix g w enc) here r));
    }

pub returns-clause-added : goal.returns-clause-added
returns-clause-added c = λ w forms r h.
    let e = c.is_empty.ensures in
    let same = length-map c.args.rule.now.groups.items group_of in
    let size = ap (λ l. length l) c.deref-group-items.ensures.value in
    regular_stem (rule_of c.args.rule.now) c.args.letters.now c.args.form.now (words_in c.loop-group.out) w forms (let some = filled c.args.rule.now.groups.items _ c.args.rule.now.groups.ok.0 (sym e ∙ c.if-is_empty.false) in omega (arith, same, some)) c.requires.spelled
    (λ v k lt x. c.loop-group.invariant.added v k (omega arith) x) r h
