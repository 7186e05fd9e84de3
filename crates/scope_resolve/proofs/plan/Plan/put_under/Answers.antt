use Rattle.scope_resolve.specs.Inner.Pruning.{IsUnderIn}
use Rattle.scope_resolve.proofs.Planning.{more_at, pair_of}
use Rattle.scope_resolve.proofs.plan.Plan.put_under.Goals as goal

pub returns : goal.returns
returns c = λ f is old. c.in_ok-put_pair.ensures f (pair_of f c.args.under is) (record {
  unders = more_at (IsUnderIn f) _ c.args.under _ c.in_ok-push.ensures.items old.unders is;
  holes = old.holes;
  labels = old.labels;
  root = old.root;
  pairs = old.pairs;
})
