use Rattle.std.proofs.Common.{◌-◌, map, arith}
use Rattle.mrs_model.specs.Views.{property_of}
use Rattle.mrs_model.proofs.Rows.{names_at, names_length}
use Rattle.mrs_model.proofs.Rising.{rise_more, fall_at}
use Rattle.mrs_model.proofs.valid.props_rise.Goals as goal

pub returns-then-not-before : goal.returns-then-not-before
returns-then-not-before c =
    let xs = c.args.props.now in
    let n = names_length property_of (λ p. p.name) xs in
    let a = names_at property_of (λ p. p.name) xs (c.loop-k.k - 1) c.index-props-k.result (omega arith) in
    let b = names_at property_of (λ p. p.name) xs c.loop-k.k c.index-props-k-in-loop-k.result c.loop-k-test.true in (
      λ t. absurd (cc),
      λ rise.
          let l = fall_at (map (λ p. p.name) (map property_of xs)) c.loop-k.k _ _ (omega arith) (omega (arith, n)) a b rise in
          let t = c.before-in-loop-k.ensures.1 l in
          let f = c.if-not-before.true in
          absurd (cc),
    )

pub loop-k-preserved : goal.loop-k-preserved
loop-k-preserved c =
    let xs = c.args.props.now in
    let a = names_at property_of (λ p. p.name) xs (c.loop-k.k - 1) c.index-props-k.result (omega arith) in
    let b = names_at property_of (λ p. p.name) xs c.loop-k.k c.index-props-k-in-loop-k.result c.loop-k-test.true in
    let l = c.before-in-loop-k.ensures.0 c.if-not-before.false in
    rise_more (map (λ p. p.name) (map property_of xs)) c.loop-k.k _ _ (omega arith) c.loop-k.invariant a b l
