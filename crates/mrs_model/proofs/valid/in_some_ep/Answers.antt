use Rattle.std.proofs.Common.{refl}
use Rattle.mrs_model.specs.Views.{predication_of}
use Rattle.mrs_model.specs.Valid.{StandsIn}
use Rattle.mrs_model.proofs.Rows.{any_here, none_more, none_of, any_rows, rows_any}
use Rattle.mrs_model.proofs.valid.in_some_ep.Goals as goal

pub returns-then-stands_in : goal.returns-then-stands_in
returns-then-stands_in c =
    (λ t. any_rows predication_of (StandsIn c.args.v) c.args.eps.now (any_here (λ x. StandsIn c.args.v (predication_of x)) c.args.eps.now c.loop-k.k c.index-eps-k.result c.loop-k-test.true c.index-eps-k.is (c.stands_in.ensures.0 c.if-stands_in.true)), λ h. refl)

pub loop-k-preserved : goal.loop-k-preserved
loop-k-preserved c =
    none_more (λ x. StandsIn c.args.v (predication_of x)) c.args.eps.now c.loop-k.k c.index-eps-k.result c.loop-k-test.true c.index-eps-k.is c.loop-k.invariant
    (λ h. let t = c.stands_in.ensures.1 h in let f = c.if-stands_in.false in absurd (cc))

pub returns : goal.returns
returns c = (λ t. absurd (cc), λ has. absurd (none_of (λ x. StandsIn c.args.v (predication_of x)) c.args.eps.now c.loop-k.k c.loop-k-test.false c.loop-k.invariant (rows_any predication_of (StandsIn c.args.v) _ has)))
