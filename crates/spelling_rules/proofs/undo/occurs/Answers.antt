use Rattle.std.proofs.Common.{rules, arith, ◌≡◌, ◌∙◌, ◌+◌, ◌-◌, ◌<◌, ◌≤◌, ◌++◌, ◌==◌, ◌&&◌, ◌⊎◌, inl, inr, ℕ, Bool, true, false, cond, List, [], ◌∷◌, length, map, filter, take, drop, get_or, Option, Some, None, string_bytes, refl, sym, ap, subst}
use Rattle.spelling_rules.proofs.Lists.{drop_map_at}
use Rattle.spelling_rules.specs.Views.{sign_of, group_of, rule_of, line_of, words_in, letters_in}
use Rattle.spelling_rules.specs.Inner.Undoing.{occurs}
use Rattle.std.proofs.Common.{◌||◌}
use Rattle.spelling_rules.proofs.undo.occurs.Goals as goal

pub returns-then-is_variable : goal.returns-then-is_variable
returns-then-is_variable c =
    let S = map sign_of c.args.signs.now in
    let i = c.loop-sign.sign-index in
    sym (ap (λ b. b || occurs c.args.name (drop (i + 1) S)) (sym c.is_variable.ensures ∙ c.if-is_variable.true))
    ∙ sym (ap (occurs c.args.name) (drop_map_at sign_of c.args.signs.now i c.sign-item.result c.loop-sign-test.true c.sign-item.is)) ∙ c.loop-sign.invariant

pub loop-sign-preserved : goal.loop-sign-preserved
loop-sign-preserved c =
    let S = map sign_of c.args.signs.now in
    let i = c.loop-sign.sign-index in
    sym (ap (λ b. b || occurs c.args.name (drop (i + 1) S)) (sym c.is_variable.ensures ∙ c.if-is_variable.false))
    ∙ sym (ap (occurs c.args.name) (drop_map_at sign_of c.args.signs.now i c.sign-item.result c.loop-sign-test.true c.sign-item.is)) ∙ c.loop-sign.invariant
