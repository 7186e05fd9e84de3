use Rattle.std.proofs.Common.{rules, arith, ◌≡◌, ◌∙◌, ◌+◌, ◌-◌, ◌<◌, ◌≤◌, ◌++◌, ◌==◌, ◌&&◌, ◌⊎◌, inl, inr, ℕ, Bool, true, false, cond, List, [], ◌∷◌, length, map, filter, take, drop, get_or, Option, Some, None, string_bytes, refl, sym, ap, subst}
use Rattle.spelling_rules.proofs.Lists.{drop_map_at, drop_at}
use Rattle.spelling_rules.proofs.RewriteLemmas.{fits_step}
use Rattle.spelling_rules.specs.Views.{sign_of, group_of, rule_of, line_of, words_in, letters_in}
use Rattle.spelling_rules.specs.Inner.Rewriting.{value_in, fits_by, fits_sign}
use Rattle.spelling_rules.proofs.groups.fits.Goals as goal

pub returns-then-not-fits_sign : goal.returns-then-not-fits_sign
returns-then-not-fits_sign c =
    let S = map sign_of c.args.signs.now in
    let i = c.loop-i.i in
    let v = value_in (map sign_of c.args.signs.now) c.args.part.now in
    let x = c.index-part-i.result in
    let inside : i < length c.args.part.now = omega arith in
    let step = fits_step v (drop i S) (drop (i + 1) S) (drop i c.args.part.now) (drop (i + 1) c.args.part.now) (sign_of c.index-signs-i.result) x _
    (drop_map_at sign_of c.args.signs.now i c.index-signs-i.result c.loop-i-test.true c.index-signs-i.is) (drop_at c.args.part.now i x inside c.index-part-i.is) c.loop-i.invariant in
    sym (ap (λ b. b && fits_by v (drop (i + 1) S) (drop (i + 1) c.args.part.now)) (sym c.fits_sign.ensures ∙ c.if-not-fits_sign.true)) ∙ step

pub loop-i-preserved : goal.loop-i-preserved
loop-i-preserved c =
    let S = map sign_of c.args.signs.now in
    let i = c.loop-i.i in
    let v = value_in (map sign_of c.args.signs.now) c.args.part.now in
    let x = c.index-part-i.result in
    let inside : i < length c.args.part.now = omega arith in
    let step = fits_step v (drop i S) (drop (i + 1) S) (drop i c.args.part.now) (drop (i + 1) c.args.part.now) (sign_of c.index-signs-i.result) x _
    (drop_map_at sign_of c.args.signs.now i c.index-signs-i.result c.loop-i-test.true c.index-signs-i.is) (drop_at c.args.part.now i x inside c.index-part-i.is) c.loop-i.invariant in
    sym (ap (λ b. b && fits_by v (drop (i + 1) S) (drop (i + 1) c.args.part.now)) (sym c.fits_sign.ensures ∙ c.if-not-fits_sign.false)) ∙ step
