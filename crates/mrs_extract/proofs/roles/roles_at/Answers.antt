use Rattle.std.proofs.Common.{length}
use Rattle.mrs_places.specs.Paths.{paths_of}
use Rattle.mrs_extract.proofs.Spreading.{role_firm, role_feats}
use Rattle.mrs_extract.proofs.Sorting.{roles_differ}
use Rattle.mrs_extract.proofs.roles.roles_at.Goals as goal

pub in_order-requires : goal.in_order-requires
in_order-requires c =
    let g = c.args.graph.now in
    let types = c.args.types.now in
    let p = paths_of c.args.paths.now in
    roles_differ g types p c.roles_by_arc.new.numbers.nodes (length p.feats) c.requires.paths.differ _ _ (role_firm g c.laws.ensures p _ c.requires.inside) (role_feats g p types _ c.requires.inside c.requires.of) c.in_ok-roles.ensures.each
