use Rattle.std.proofs.Common.{◌∙◌}
use Rattle.mrs_places.specs.Paths.{paths_of}
use Rattle.mrs_extract.proofs.Spreading.{arc_to_in}
use Rattle.mrs_extract.proofs.Numbering.{nodes_next, roles_next}
use Rattle.mrs_extract.proofs.roles.roles_by_arc.Goals as goal

pub put_role-requires-clause-to_in : goal.put_role-requires-clause-to_in
put_role-requires-clause-to_in c = arc_to_in _ c.laws.ensures _ _ _ _ c.requires.inside c.arcs-arcs.ensures c.loop-k-test.true

pub loop-k-preserved : goal.loop-k-preserved
loop-k-preserved c =
    let g = c.args.graph.now in
    let types = c.args.types.now in
    let p = paths_of c.args.paths.now in
    record {
      size = c.in_ok-put_role.ensures.size ∙ c.loop-k.invariant.size;
      nodes = nodes_next g types p _ c.loop-k.k _ c.loop-k-test.true _ _ _ c.in_ok-put_role.ensures.nodes c.loop-k.invariant.nodes;
      each = roles_next g types p _ c.loop-k.k _ c.loop-k-test.true c.args.numbers.now.nodes _ _ c.in_ok-put_role.ensures.nodes _ _ c.loop-k.invariant.each c.in_ok-put_role.ensures.each;
    }
