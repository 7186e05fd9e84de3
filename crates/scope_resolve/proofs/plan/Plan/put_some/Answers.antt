use Rattle.std.proofs.Common.{subst}
use Rattle.std.specs.Prelude.{MatchOption}
use Rattle.scope_resolve.specs.Inner.Pruning.{IsUnderIn}
use Rattle.scope_resolve.proofs.plan.Plan.put_some.Goals as goal

pub returns-in_ok-put_under : goal.returns-in_ok-put_under
returns-in_ok-put_under c = λ f is old. c.in_ok-put_under.ensures f (subst (λ u. MatchOption u (Unit {0}) (IsUnderIn f)) c.in-Some.is is) old
