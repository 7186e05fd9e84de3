use Rattle.std.proofs.Common.{◌≡◌, length, vec_len, arith, rules, below_more, refl}
use Rattle.mrs_model.specs.Views.{variable_of, meaning_of}
use Rattle.mrs_model.specs.Valid.{Stands}
use Rattle.mrs_model.proofs.Rows.{length_rows}
use Rattle.mrs_model.proofs.valid.all_stand.Goals as goal

pub returns-then-not-stands : goal.returns-then-not-stands
returns-then-not-stands c =
    let n = length_rows variable_of c.args.mrs.now.vars.items in
    let m : vec_len c.args.mrs.now.vars ≡ length c.args.mrs.now.vars.items = search rules in (
      λ t. absurd (cc),
      λ all.
          let s = all c.loop-v.v (omega (arith, n, m, c.loop-v-test.true)) in
          let t = c.stands.ensures.1 s in
          let f = c.if-not-stands.true in
          absurd (cc),
    )

pub loop-v-preserved : goal.loop-v-preserved
loop-v-preserved c = below_more (λ w. Stands (meaning_of c.args.mrs.now) w) c.loop-v.v c.loop-v.invariant (c.stands.ensures.0 c.if-not-stands.false)

pub returns : goal.returns
returns c =
    let n = length_rows variable_of c.args.mrs.now.vars.items in
    let m : vec_len c.args.mrs.now.vars ≡ length c.args.mrs.now.vars.items = search rules in
    (λ t v l. c.loop-v.invariant v (omega (arith, n, m, l, c.loop-v-test.false)), λ all. refl)
