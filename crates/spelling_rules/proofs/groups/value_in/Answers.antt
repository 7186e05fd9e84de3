use Rattle.std.proofs.Common.{rules, arith, ◌≡◌, ◌∙◌, ◌+◌, ◌-◌, ◌<◌, ◌≤◌, ◌++◌, ◌==◌, ◌&&◌, ◌⊎◌, inl, inr, ℕ, Bool, true, false, cond, List, [], ◌∷◌, length, map, filter, take, drop, get_or, Option, Some, None, string_bytes, refl, sym, ap, subst}
use Rattle.spelling_rules.proofs.Lists.{drop_map_at, drop_at, drop_nat}
use Rattle.spelling_rules.proofs.RewriteLemmas.{value_step}
use Rattle.spelling_rules.specs.Views.{sign_of, group_of, rule_of, line_of, words_in, letters_in}
use Rattle.spelling_rules.specs.Inner.Rewriting.{is_variable, value_in}
use Rattle.spelling_rules.proofs.groups.value_in.Goals as goal

pub returns-then-is_variable : goal.returns-then-is_variable
returns-then-is_variable c =
    let S = map sign_of c.args.signs.now in
    let i = c.loop-i.i in
    let x = c.index-part-i.result in
    let inside : i < length c.args.part.now = omega arith in
    let step = value_step (drop i S) (drop (i + 1) S) (drop i c.args.part.now) (drop (i + 1) c.args.part.now) (sign_of c.index-signs-i.result) x c.args.name _
    (drop_map_at sign_of c.args.signs.now i c.index-signs-i.result c.loop-i-test.true c.index-signs-i.is) (drop_at c.args.part.now i x inside c.index-part-i.is) c.loop-i.invariant in
    sym (ap (λ b. cond b x (value_in (drop (i + 1) S) (drop (i + 1) c.args.part.now) c.args.name)) (sym c.is_variable.ensures ∙ c.if-is_variable.true)) ∙ step

pub loop-i-preserved : goal.loop-i-preserved
loop-i-preserved c =
    let S = map sign_of c.args.signs.now in
    let i = c.loop-i.i in
    let x = get_or c.args.part.now i 0 in
    let inside : i < length c.args.part.now = omega arith in
    let step = value_step (drop i S) (drop (i + 1) S) (drop i c.args.part.now) (drop (i + 1) c.args.part.now) (sign_of c.index-signs-i.result) x c.args.name _
    (drop_map_at sign_of c.args.signs.now i c.index-signs-i.result c.loop-i-test.true c.index-signs-i.is) (drop_nat c.args.part.now i inside) c.loop-i.invariant in
    sym (ap (λ b. cond b x (value_in (drop (i + 1) S) (drop (i + 1) c.args.part.now) c.args.name)) (sym c.is_variable.ensures ∙ c.if-is_variable.false)) ∙ step
