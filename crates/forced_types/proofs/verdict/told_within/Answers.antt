use Rattle.std.proofs.Common.{subst}
use Rattle.forced_types.specs.Inner.Counting.{ClosedWithin}
use Rattle.forced_types.proofs.verdict.told_within.Goals as goal

pub told_verdict-requires-clause-closed : goal.told_verdict-requires-clause-closed
told_verdict-requires-clause-closed c =
    (subst (ClosedWithin c.args.given c.args.limit c.close_within.new.self) c.if-few.true c.in_ok-few.ensures.closed).0

pub returns-then-few : goal.returns-then-few
returns-then-few c =
    (c.in_ok-verdict.ensures, (subst (ClosedWithin c.args.given c.args.limit c.close_within.new.self) c.if-few.true c.in_ok-few.ensures.closed).1)

pub returns : goal.returns
returns c = subst (ClosedWithin c.args.given c.args.limit c.close_within.new.self) c.if-few.false c.in_ok-few.ensures.closed
