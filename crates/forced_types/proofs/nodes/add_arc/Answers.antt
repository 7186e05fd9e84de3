use Rattle.std.proofs.Common.{inr, refl}
use Rattle.forced_types.proofs.nodes.add_arc.Goals as goal

pub returns : goal.returns
returns c = record { path = refl; up = refl; types = refl; image = refl; arcs = inr c.in_ok-push.ensures.items }
