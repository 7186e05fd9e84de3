use Rattle.std.proofs.Common.{◌≡◌, refl}
use Rattle.mrs_model.specs.Views.{argument_of}
use Rattle.mrs_model.specs.Meanings.{of_var}
use Rattle.mrs_model.proofs.Rows.{any_here, none_more, none_of, any_rows, rows_any}
use Rattle.mrs_model.proofs.valid.fills_some.Goals as goal

pub returns-then-fills : goal.returns-then-fills
returns-then-fills c =
    (λ t. any_rows argument_of (λ a. a.filler ≡ of_var c.args.v) c.args.roles.now (any_here (λ x. (argument_of x).filler ≡ of_var c.args.v) c.args.roles.now c.loop-k.k c.index-roles-k.result c.loop-k-test.true c.index-roles-k.is (c.fills.ensures.0 c.if-fills.true)), λ h. refl)

pub loop-k-preserved : goal.loop-k-preserved
loop-k-preserved c =
    none_more (λ x. (argument_of x).filler ≡ of_var c.args.v) c.args.roles.now c.loop-k.k c.index-roles-k.result c.loop-k-test.true c.index-roles-k.is c.loop-k.invariant
    (λ h. let t = c.fills.ensures.1 h in let f = c.if-fills.false in absurd (cc))

pub returns : goal.returns
returns c = (λ t. absurd (cc), λ has. absurd (none_of (λ x. (argument_of x).filler ≡ of_var c.args.v) c.args.roles.now c.loop-k.k c.loop-k-test.false c.loop-k.invariant (rows_any argument_of (λ a. a.filler ≡ of_var c.args.v) _ has)))
