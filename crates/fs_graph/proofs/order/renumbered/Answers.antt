use Rattle.std.proofs.Common.{length, arith}
use Rattle.fs_graph.proofs.OrderLemmas.{renumbers_more, row_targets, renumbers_all}
use Rattle.fs_graph.proofs.order.renumbered.Goals as goal

pub loop-node-init : goal.loop-node-init
loop-node-init c = record { types_are = c.in_ok-new_types.ensures.items; starts_are = c.in_ok-new_starts.ensures.items; arcs_are = c.in_ok-new_arcs.ensures.items }

pub count_arcs-requires : goal.count_arcs-requires
count_arcs-requires c = λ k h.
    let node = (c.requires.settled.ordered k h).0 in
    let more = c.requires.plan.rows.one_more in
    omega arith

pub push_row-requires : goal.push_row-requires
push_row-requires c = λ k h.
    row_targets c.args.types.now c.args.starts.now c.args.arcs.now c.requires.plan c.args.numbers.now c.args.order.now c.requires.settled (length c.args.numbers.now)
    c.loop-node.node-index k c.requires.numbers c.loop-node-test.true h

pub loop-node-preserved : goal.loop-node-preserved
loop-node-preserved c =
    renumbers_more c.args.types.now c.args.starts.now c.args.arcs.now c.requires.plan c.args.numbers.now c.args.order.now c.requires.settled c.loop-node.node-index
    c.loop-node.new_types.items _ c.loop-node.new_starts.items _ c.loop-node.new_arcs.items _ _ c.loop-node-test.true c.loop-node.invariant
    c.in_ok-push.ensures.items c.in_ok-push-2.ensures.items c.in_ok-place.ensures c.in_ok-push_row.ensures

pub invariant_of-result : goal.invariant_of-result
invariant_of-result c =
    (renumbers_all c.args.types.now c.args.starts.now c.args.arcs.now c.requires.plan c.args.numbers.now c.args.order.now c.requires.settled c.loop-node.node-index _
    c.loop-node.new_types.items c.loop-node.new_starts.items _ c.loop-node.new_arcs.items (let a = c.loop-node-test.false in let b = c.loop-node.auto in omega arith)
    c.loop-node.invariant c.in_ok-push-3.ensures.items c.in_ok-place-2.ensures).0

pub returns : goal.returns
returns c =
    (renumbers_all c.args.types.now c.args.starts.now c.args.arcs.now c.requires.plan c.args.numbers.now c.args.order.now c.requires.settled c.loop-node.node-index _
    c.loop-node.new_types.items c.loop-node.new_starts.items _ c.loop-node.new_arcs.items (let a = c.loop-node-test.false in let b = c.loop-node.auto in omega arith)
    c.loop-node.invariant c.in_ok-push-3.ensures.items c.in_ok-place-2.ensures).1
