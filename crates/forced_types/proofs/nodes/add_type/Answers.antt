use Rattle.std.proofs.Common.{refl}
use Rattle.forced_types.proofs.EntryLemmas.{pushed}
use Rattle.forced_types.proofs.nodes.add_type.Goals as goal

pub returns : goal.returns
returns c = record { path = refl; up = refl; arcs = refl; image = refl; types = pushed c.args.node.now.types.items c.push.new.self.items c.args.ty c.in_ok-push.ensures.items }
