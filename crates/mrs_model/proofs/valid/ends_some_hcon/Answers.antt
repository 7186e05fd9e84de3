use Rattle.std.proofs.Common.{refl}
use Rattle.mrs_model.specs.Views.{hcon_of}
use Rattle.mrs_model.specs.Valid.{IsEnd}
use Rattle.mrs_model.proofs.Rows.{any_here, none_more, none_of, any_rows, rows_any}
use Rattle.mrs_model.proofs.valid.ends_some_hcon.Goals as goal

pub returns-then-ends_hcon : goal.returns-then-ends_hcon
returns-then-ends_hcon c =
    (λ t. any_rows hcon_of (IsEnd c.args.v) c.args.hcons.now (any_here (λ x. IsEnd c.args.v (hcon_of x)) c.args.hcons.now c.loop-k.k c.index-hcons-k.result c.loop-k-test.true c.index-hcons-k.is (c.ends_hcon.ensures.0 c.if-ends_hcon.true)), λ h. refl)

pub loop-k-preserved : goal.loop-k-preserved
loop-k-preserved c =
    none_more (λ x. IsEnd c.args.v (hcon_of x)) c.args.hcons.now c.loop-k.k c.index-hcons-k.result c.loop-k-test.true c.index-hcons-k.is c.loop-k.invariant
    (λ h. let t = c.ends_hcon.ensures.1 h in let f = c.if-ends_hcon.false in absurd (cc))

pub returns : goal.returns
returns c = (λ t. absurd (cc), λ has. absurd (none_of (λ x. IsEnd c.args.v (hcon_of x)) c.args.hcons.now c.loop-k.k c.loop-k-test.false c.loop-k.invariant (rows_any hcon_of (IsEnd c.args.v) _ has)))
