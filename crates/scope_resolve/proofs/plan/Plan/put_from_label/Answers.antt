use Rattle.scope_resolve.specs.Inner.Pruning.{IsLabelChain}
use Rattle.scope_resolve.proofs.Planning.{more_at}
use Rattle.scope_resolve.proofs.plan.Plan.put_from_label.Goals as goal

pub returns : goal.returns
returns c = λ f is pair old. c.in_ok-put_pair.ensures f pair (record {
  unders = old.unders;
  holes = old.holes;
  labels = more_at (IsLabelChain f) _ c.args.link _ c.in_ok-push.ensures.items old.labels is;
  root = old.root;
  pairs = old.pairs;
})
