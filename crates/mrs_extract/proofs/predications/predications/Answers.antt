use Rattle.std.proofs.Common.{◌∙◌}
use Rattle.mrs_model.specs.Views.{predication_of}
use Rattle.mrs_places.specs.Paths.{paths_of}
use Rattle.mrs_extract.specs.Extraction.{IsPredicationAt, predication_nodes}
use Rattle.mrs_extract.proofs.Numbering.{pair_in, made_next, predication_later}
use Rattle.mrs_extract.proofs.predications.predications.Goals as goal

pub predication-requires-clause-inside : goal.predication-requires-clause-inside
predication-requires-clause-inside c = pair_in _ _ _ _ c.requires.inside c.loop-k-test.true

pub loop-k-preserved : goal.loop-k-preserved
loop-k-preserved c =
    let g = c.args.graph.now in
    let types = c.args.types.now in
    let p = paths_of c.args.paths.now in
    record {
      size = c.in_ok-predication.ensures.size ∙ c.loop-k.invariant.size;
      made = made_next (IsPredicationAt g types p) (predication_nodes g types p) (predication_later g types p) _ _ _ _ _ _ predication_of _ _ _ c.loop-k-test.true c.in_ok-push.ensures.items c.in_ok-predication.ensures.nodes c.in_ok-predication.ensures.is c.loop-k.invariant.made;
    }
