use Rattle.scope_model.proofs.Full.{owner_in}
use Rattle.scope_model.proofs.Lists.{in_of}
use Rattle.scope_resolve.specs.Inner.Nets.{frame_in}
use Rattle.scope_resolve.specs.Inner.Filling.{path}
use Rattle.scope_resolve.proofs.search.Search.see.Goals as goal

pub returns-clause-seen : goal.returns-clause-seen
returns-clause-seen c =
    let n = c.args.net.now in
    let t = c.args.trail.now in
    record {
      top = λ k i. owner_in (frame_in n.parts) t.root (path t) c.requires.going.trail k (in_of (path t) k i);
      bodies = c.requires.net.linked.bodies;
      opens = c.in_ok-see.ensures.opens;
      below = c.in_ok-see.ensures.below;
      chain = c.in_ok-see.ensures.chain;
      placed = c.in_ok-see.ensures.placed;
    }
