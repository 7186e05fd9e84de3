use Rattle.std.proofs.Common.{◌<◌, length, sym, ap, arith}
use Rattle.std.proofs.lemmas.List.{length-map}
use Rattle.mrs_places.specs.Inner.Walked.{nodes_of}
use Rattle.mrs_places.proofs.Ranks.{along_short}
use Rattle.mrs_places.proofs.Walking.{passed_none, passed_more, passed_end, passed_open, passed_no_rest, nodes_push, all_more, one_longer}
use Rattle.mrs_places.proofs.lists.walked.Goals as goal

pub loop-turn-init : goal.loop-turn-init
loop-turn-init c = record {
  inside = c.requires.inside;
  all_in = rw c.new-cells.ensures.items (λ k d lt. absurd (omega (arith, lt)));
  count = ap length c.new-cells.ensures.items;
  passed = passed_none _ _ _ _ _ _ (ap nodes_of c.new-cells.ensures.items);
}

pub returns-in-End-clause-walked : goal.returns-in-End-clause-walked
returns-in-End-clause-walked c = passed_end _ _ _ _ _ _ _ c.in-End.ensures c.loop-turn.invariant.passed

pub returns-in-Open-clause-walked : goal.returns-in-Open-clause-walked
returns-in-Open-clause-walked c = passed_open _ _ _ _ _ _ _ c.in-Open.ensures c.loop-turn.invariant.passed

pub returns-in_default-clause-walked : goal.returns-in_default-clause-walked
returns-in_default-clause-walked c =
    passed_no_rest _ _ _ _ _ _ _ _ (nodes_push _ _ _ c.in_ok-push-in-Cell.ensures.items) c.in-Cell.ensures (sym c.in_default.ensures.at) c.loop-turn.invariant.passed

pub loop-turn-preserved : goal.loop-turn-preserved
loop-turn-preserved c = record {
  inside = c.in-Some.ensures.inside;
  all_in = all_more (λ n. n.0 < length c.args.graph.now.types) _ _ _ c.in_ok-push-in-Cell.ensures.items c.loop-turn.invariant.all_in c.loop-turn.invariant.inside;
  count = one_longer _ _ _ _ c.in_ok-push-in-Cell.ensures.items c.loop-turn.invariant.count;
  passed = passed_more _ _ _ _ _ _ _ _ _ (nodes_push _ _ _ c.in_ok-push-in-Cell.ensures.items) c.in-Cell.ensures (sym c.in-Some.ensures.at) c.loop-turn.invariant.passed;
}

pub unreachable-requires : goal.unreachable-requires
unreachable-requires c =
    let h = c.loop-turn.invariant in
    let short = along_short _ c.nodes-nodes.ensures.graph _ _ _ c.requires.inside h.passed.along in
    let same = length-map c.loop-turn.cells.items (λ n. n.0) in
    omega (arith, short, same, h.count, c.loop-turn-test.false, c.nodes-nodes.ensures.count)
