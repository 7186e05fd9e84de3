use Rattle.forced_types.specs.Forced.{same_type}
use Rattle.forced_types.proofs.nodes.Nodes.pull_type.Goals as goal

pub add_type-requires-clause-forced : goal.add_type-requires-clause-forced
add_type-requires-clause-forced c = same_type _ _ c.in-Some.ty c.live-to.ensures.same c.in-Some.ensures.forced
