use Rattle.std.proofs.Common.{refl}
use Rattle.mrs_model.specs.Views.{icon_of}
use Rattle.mrs_model.specs.Valid.{IsEnd}
use Rattle.mrs_model.proofs.Rows.{any_here, none_more, none_of, any_rows, rows_any}
use Rattle.mrs_model.proofs.valid.ends_some_icon.Goals as goal

pub returns-then-ends_icon : goal.returns-then-ends_icon
returns-then-ends_icon c =
    (λ t. any_rows icon_of (IsEnd c.args.v) c.args.icons.now (any_here (λ x. IsEnd c.args.v (icon_of x)) c.args.icons.now c.loop-k.k c.index-icons-k.result c.loop-k-test.true c.index-icons-k.is (c.ends_icon.ensures.0 c.if-ends_icon.true)), λ h. refl)

pub loop-k-preserved : goal.loop-k-preserved
loop-k-preserved c =
    none_more (λ x. IsEnd c.args.v (icon_of x)) c.args.icons.now c.loop-k.k c.index-icons-k.result c.loop-k-test.true c.index-icons-k.is c.loop-k.invariant
    (λ h. let t = c.ends_icon.ensures.1 h in let f = c.if-ends_icon.false in absurd (cc))

pub returns : goal.returns
returns c = (λ t. absurd (cc), λ has. absurd (none_of (λ x. IsEnd c.args.v (icon_of x)) c.args.icons.now c.loop-k.k c.loop-k-test.false c.loop-k.invariant (rows_any icon_of (IsEnd c.args.v) _ has)))
