use Rattle.std.proofs.Common.{◌<◌, length, sym}
use Rattle.mrs_places.specs.Paths.{paths_of, feature_of}
use Rattle.mrs_places.proofs.Walking.{all_more, one_longer}
use Rattle.mrs_places.proofs.Elements.{first_more, first_stops}
use Rattle.mrs_places.proofs.lists.firsts.Goals as goal

pub returns-in_default-clause-told : goal.returns-in_default-clause-told
returns-in_default-clause-told c =
    first_stops c.args.graph.now (paths_of c.args.paths.now) (feature_of c.args.list.now) c.args.cells.now c.loop-k.k (record { 0 = 0 }) c.loop-k.elements.items _ c.loop-k-test.true
    (sym c.in_default.ensures.at) c.loop-k.invariant.there c.missing_in_list.ensures

pub loop-k-preserved : goal.loop-k-preserved
loop-k-preserved c = record {
  all_in = all_more (λ n. n.0 < length c.args.graph.now.types) _ _ _ c.in_ok-push.ensures.items c.loop-k.invariant.all_in c.in-Some.ensures.inside;
  count = one_longer _ _ _ _ c.in_ok-push.ensures.items c.loop-k.invariant.count;
  there = first_more c.args.graph.now (paths_of c.args.paths.now) (feature_of c.args.list.now) c.args.cells.now c.loop-k.k (record { 0 = 0 }) c.in-Some.first c.loop-k.elements.items _ c.loop-k-test.true
      (sym c.in-Some.ensures.at) c.in_ok-push.ensures.items c.loop-k.invariant.count c.loop-k.invariant.there;
}
