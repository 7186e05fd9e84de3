use Rattle.std.proofs.Common.{true, take, map}
use Rattle.scope_model.specs.Answers.{plugged_of}
use Rattle.scope_resolve.specs.Inner.Nets.{frame_in}
use Rattle.scope_resolve.specs.Inner.Filling.{AreFound, HasRootIn}
use Rattle.scope_resolve.specs.Inner.Pruning.{IsPlan}
use Rattle.scope_resolve.proofs.roots.fill_all.Given as goal

abbrev pub invariant-loop-k : goal.invariant-loop-k
invariant-loop-k l = record {
  plan : IsPlan (frame_in l.net.parts) l.search.plan;
  found : AreFound (frame_in l.net.parts) (HasRootIn (take l.k l.net.labels.items)) l.max true (map plugged_of l.fn.out.items) (map plugged_of l.out.items);
}
