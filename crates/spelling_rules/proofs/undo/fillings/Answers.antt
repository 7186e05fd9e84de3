use Rattle.std.proofs.Common.{rules, arith, ◌≡◌, ◌∙◌, ◌+◌, ◌-◌, ◌<◌, ◌≤◌, ◌++◌, ◌==◌, ◌&&◌, ◌⊎◌, inl, inr, ℕ, Bool, true, false, cond, List, [], ◌∷◌, length, map, filter, take, drop, get_or, Option, Some, None, string_bytes, refl, sym, ap, subst}
use Rattle.spelling_rules.proofs.Lists.{drop_map_at}
use Rattle.spelling_rules.proofs.UndoLemmas.{fillings_next}
use Rattle.spelling_rules.specs.Views.{sign_of, group_of, rule_of, line_of, words_in, letters_in}
use Rattle.spelling_rules.specs.Inner.Undoing.{longer}
use Rattle.std.specs.List.{flat_map}
use Rattle.spelling_rules.proofs.undo.fillings.Goals as goal

pub loop-sign-preserved : goal.loop-sign-preserved
loop-sign-preserved c =
    let S = map sign_of c.args.pattern.now in
    let i = c.loop-sign.sign-index in
    fillings_next (map sign_of c.args.with.now) c.args.part.now (map letters_in c.loop-sign.done.items) (map letters_in c.in_ok-done.done.items) (drop i S) (drop (i + 1) S) (sign_of c.sign-item.result) c.in_ok-letters.letters.items _
    (drop_map_at sign_of c.args.pattern.now i c.sign-item.result c.loop-sign-test.true c.sign-item.is) c.in_ok-letters.ensures
    (c.in_ok-done.ensures ∙ ap (λ l. flat_map (λ filled. longer filled l) (map letters_in c.deref.result.now)) c.deref-in-loop-sign.ensures.value ∙ ap (λ d. flat_map (λ filled. longer filled c.in_ok-letters.letters.items) (map letters_in d)) c.deref.ensures.value)
    c.loop-sign.invariant
