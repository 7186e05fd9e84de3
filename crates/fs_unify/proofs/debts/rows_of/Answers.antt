use Rattle.std.proofs.Common.{◌++◌, ◌∙◌, ap, arith}
use Rattle.fs_unify.specs.Inner.Hanging.{kept_row}
use Rattle.fs_unify.proofs.HangRows.{kept_more, kept_all}
use Rattle.fs_unify.proofs.debts.rows_of.Goals as goal

pub loop-n-preserved : goal.loop-n-preserved
loop-n-preserved c =
    let hang = c.args.hanging.now.hang.items in
    let lead = c.args.hanging.now.lead.items in
    kept_more hang lead c.args.graph.now c.loop-n.n c.loop-n.types.items c.push.new.self.items c.loop-n.starts.items c.push-in-loop-n.new.self.items
    c.loop-n.arcs.items c.push_kept.new.arcs.items c.kept_type.result c.in_ok-place.field-0 (let a = c.loop-n-test.true in let e = c.nodes-nodes.ensures.count in omega (arith, a, e))
    c.loop-n.invariant c.in_ok-push.ensures.items c.kept_type.ensures c.in_ok-push-2.ensures.items c.in_ok-place.ensures
    (c.in_ok-push_kept.ensures ∙ ap (λ l. c.loop-n.arcs.items ++ kept_row hang lead l) c.arcs.ensures)

pub returns : goal.returns
returns c =
    kept_all c.args.hanging.now.hang.items c.args.hanging.now.lead.items c.args.graph.now c.loop-n.n c.in_ok-place-2.field-0 c.loop-n.types.items c.loop-n.starts.items
    c.push-2.new.self.items c.loop-n.arcs.items (let a = c.loop-n-test.false in let b = c.loop-n.auto in let e = c.nodes-nodes.ensures.count in omega (arith, a, b, e))
    (let e = c.nodes-nodes.ensures.count in omega (arith, e)) c.nodes-nodes.ensures.graph c.loop-n.invariant c.in_ok-push-3.ensures.items c.in_ok-place-2.ensures
