use Rattle.std.proofs.Common.{◌==◌, ◌++◌, ◌∙◌, ap, arith}
use Rattle.fs_trim.specs.Cutting.{cut_of}
use Rattle.fs_trim.specs.Inner.Rows.{left}
use Rattle.fs_trim.proofs.LeftLemmas.{left_more, left_all}
use Rattle.fs_trim.proofs.kept.rows_of.Goals as goal

pub loop-n-preserved : goal.loop-n-preserved
loop-n-preserved c =
    left_more (cut_of c.args.cut.now) c.args.graph.now c.loop-n.n c.loop-n.types.items c.push.new.self.items c.loop-n.starts.items c.push-in-loop-n.new.self.items
    c.loop-n.arcs.items c.push_left.new.arcs.items c.ty.result c.in_ok-place.field-0 (let a = c.loop-n-test.true in let e = c.nodes-nodes.ensures.count in omega (arith, a, e))
    c.loop-n.invariant c.in_ok-push.ensures.items c.ty.ensures c.in_ok-push-2.ensures.items c.in_ok-place.ensures (c.in_ok-push_left.ensures ∙ ap (λ l. c.loop-n.arcs.items ++ left (cut_of c.args.cut.now) (c.loop-n.n == 0) l) c.arcs.ensures)

pub returns : goal.returns
returns c =
    left_all (cut_of c.args.cut.now) c.args.graph.now c.loop-n.n c.in_ok-place-2.field-0 c.loop-n.types.items c.loop-n.starts.items c.push-2.new.self.items c.loop-n.arcs.items
    (let a = c.loop-n-test.false in let b = c.loop-n.auto in let e = c.nodes-nodes.ensures.count in omega (arith, a, b, e))
    (let e = c.nodes-nodes.ensures.count in omega (arith, e)) c.nodes-nodes.ensures.graph c.loop-n.invariant
    c.in_ok-push-3.ensures.items c.in_ok-place-2.ensures
