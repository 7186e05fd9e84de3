use Rattle.std.proofs.Common.{refl, arith}
use Rattle.morph_analysis.specs.LatticeViews.{step_of}
use Rattle.line_charts.specs.Inner.Reaches.{IsWithin}
use Rattle.line_charts.proofs.UnknownSteps.{some_at, none_at}
use Rattle.line_charts.proofs.unknown.is_within_some.Goals as goal

pub returns-then-branch : goal.returns-then-branch
returns-then-branch c = (
  λ e. some_at (IsWithin c.args.arrivals.now) c.args.longs.now c.loop-reach.reach-index c.reach-item.result (step_of c.args.step.now) c.loop-reach-test.true c.reach-item.is (c.in_ok-is_within.ensures.0 c.if-branch.true),
  λ h. refl,
)

pub returns : goal.returns
returns c = (
  λ e. absurd (cc),
  λ h. absurd (none_at (IsWithin c.args.arrivals.now) c.args.longs.now (step_of c.args.step.now) (λ k r lt e p. c.loop-reach.invariant k r (omega (arith, c.loop-reach-test.false)) e p) h),
)
