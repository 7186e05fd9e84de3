use Rattle.scope_resolve.specs.Inner.Pruning.{IsHoleChain}
use Rattle.scope_resolve.proofs.Planning.{more_at}
use Rattle.scope_resolve.proofs.plan.Plan.put_from_hole.Goals as goal

pub returns : goal.returns
returns c = λ f is under old. c.in_ok-put_under.ensures f under (record {
  unders = old.unders;
  holes = more_at (IsHoleChain f) _ c.args.link _ c.in_ok-push.ensures.items old.holes is;
  labels = old.labels;
  root = old.root;
  pairs = old.pairs;
})
