use Rattle.forced_types.specs.Forced.{met}
use Rattle.forced_types.proofs.nodes.Nodes.meet.Goals as goal

pub put_beside-requires-clause-forced : goal.put_beside-requires-clause-forced
put_beside-requires-clause-forced c =
    met _ c.in-Some.first c.in-Some-type_at.second c.in-Some-common.both c.in-Some.ensures.forced c.in-Some-type_at.ensures.forced c.in-Some-common.ensures.common.meet_is
