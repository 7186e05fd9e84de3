use Rattle.std.proofs.Common.{◌∙◌}
use Rattle.mrs_model.specs.Views.{hcon_of}
use Rattle.mrs_places.specs.Paths.{paths_of}
use Rattle.mrs_extract.specs.Extraction.{IsConstraintAt, constraint_nodes}
use Rattle.mrs_extract.proofs.Numbering.{pair_in, made_next, constraint_later}
use Rattle.mrs_extract.proofs.constraints.handle_constraints.Goals as goal

pub hcon-requires-clause-inside : goal.hcon-requires-clause-inside
hcon-requires-clause-inside c = pair_in _ _ _ _ c.requires.inside c.loop-k-test.true

pub loop-k-preserved : goal.loop-k-preserved
loop-k-preserved c =
    let g = c.args.graph.now in
    let types = c.args.types.now in
    let p = paths_of c.args.paths.now in
    record {
      size = c.in_ok-hcon.ensures.size ∙ c.loop-k.invariant.size;
      made = made_next (IsConstraintAt g types p) (constraint_nodes) (constraint_later g types p) _ _ _ _ _ _ hcon_of _ _ _ c.loop-k-test.true c.in_ok-push.ensures.items c.in_ok-hcon.ensures.nodes c.in_ok-hcon.ensures.is c.loop-k.invariant.made;
    }
