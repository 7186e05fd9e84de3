use Rattle.scope_resolve.specs.Inner.Pruning.{IsPair}
use Rattle.scope_resolve.proofs.Planning.{more_at}
use Rattle.scope_resolve.proofs.plan.Plan.put_pair.Goals as goal

pub returns : goal.returns
returns c = λ f is old. record {
  unders = old.unders;
  holes = old.holes;
  labels = old.labels;
  root = old.root;
  pairs = more_at (IsPair f) _ c.args.pair _ c.in_ok-push.ensures.items old.pairs is;
}
