use Rattle.scope_resolve.specs.Inner.Pruning.{IsRootChain}
use Rattle.scope_resolve.proofs.Planning.{more_at}
use Rattle.scope_resolve.proofs.plan.Plan.put_from_root.Goals as goal

pub returns : goal.returns
returns c = λ f is old. record {
  unders = old.unders;
  holes = old.holes;
  labels = old.labels;
  root = more_at (IsRootChain f) _ c.args.label _ c.in_ok-push.ensures.items old.root is;
  pairs = old.pairs;
}
