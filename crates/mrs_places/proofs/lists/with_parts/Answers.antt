use Rattle.std.proofs.Common.{length, sym}
use Rattle.mrs_places.specs.Paths.{paths_of, feature_of}
use Rattle.mrs_places.specs.Places.{IsPairIn}
use Rattle.mrs_places.proofs.Walking.{all_more}
use Rattle.mrs_places.proofs.Elements.{pair_more, one_stops, two_stops, pairs_push}
use Rattle.mrs_places.proofs.lists.with_parts.Goals as goal

pub returns-in_default-clause-told : goal.returns-in_default-clause-told
returns-in_default-clause-told c =
    one_stops c.args.graph.now (paths_of c.args.paths.now) (feature_of c.args.feats.now.list.now) (feature_of c.args.feats.now.one.now) (feature_of c.args.feats.now.two.now) c.args.elements.now c.loop-k.k (record { 0 = 0 }) c.loop-k.pairs.items _ c.loop-k-test.true
    (sym c.in_default.ensures.at) c.loop-k.invariant.there c.missing_in_list.ensures

pub returns-in_default-step-clause-told : goal.returns-in_default-step-clause-told
returns-in_default-step-clause-told c =
    two_stops c.args.graph.now (paths_of c.args.paths.now) (feature_of c.args.feats.now.list.now) (feature_of c.args.feats.now.one.now) (feature_of c.args.feats.now.two.now) c.args.elements.now c.loop-k.k (record { 0 = 0 }) c.in-Some.first_part c.loop-k.pairs.items _ c.loop-k-test.true
    (sym c.in-Some.ensures.at) (sym c.in_default-step.ensures.at) c.loop-k.invariant.there c.missing_in_list-in_default-step.ensures

pub loop-k-preserved : goal.loop-k-preserved
loop-k-preserved c = record {
  all_in = all_more (IsPairIn (length c.args.graph.now.types)) _ _ _ (pairs_push _ _ _ c.in_ok-push.ensures.items) c.loop-k.invariant.all_in
      (record { at = c.requires c.loop-k.k (record { 0 = 0 }) c.loop-k-test.true; one = c.in-Some.ensures.inside; two = c.in-Some-step.ensures.inside });
  there = pair_more c.args.graph.now (paths_of c.args.paths.now) (feature_of c.args.feats.now.list.now) (feature_of c.args.feats.now.one.now) (feature_of c.args.feats.now.two.now) c.args.elements.now c.loop-k.k (record { 0 = 0 }) c.in-Some.first_part c.in-Some-step.second_part
      c.loop-k.pairs.items _ c.loop-k-test.true (sym c.in-Some.ensures.at) (sym c.in-Some-step.ensures.at) c.in_ok-push.ensures.items c.loop-k.invariant.there;
}
