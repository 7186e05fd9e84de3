use Rattle.std.proofs.Common.{◌<◌, length, sym, ◌∙◌, subst, arith}
use Rattle.std.proofs.lemmas.List.{nil_from_length, get_or_default}
use Rattle.std.proofs.lemmas.Result.{err_from_is_err_and}
use Rattle.fs_graph.specs.Visits.{plan_of}
use Rattle.fs_graph.specs.Inner.Going.{left_of}
use Rattle.fs_graph.specs.Inner.Heights.{AreHeights}
use Rattle.fs_graph.proofs.RowLemmas.{visitable}
use Rattle.fs_graph.proofs.OrderLemmas.{able_here, going_pops, going_back, order_is, clash_back}
use Rattle.fs_graph.proofs.order.order_in.Goals as goal

pub loop-frame-init : goal.loop-frame-init
loop-frame-init c = record {
  going = c.in_ok-begin.ensures.going c.args.arcs.now (visitable c.args.types.now c.args.starts.now c.args.arcs.now c.requires);
  heights = c.in_ok-begin.ensures.heights c.args.arcs.now;
}

pub pass-requires-clause-able : goal.pass-requires-clause-able
pass-requires-clause-able c = able_here c.args.types.now c.args.starts.now c.args.arcs.now c.requires _ c.loop-frame.invariant.going.numbers_all

pub pass-requires-clause-going : goal.pass-requires-clause-going
pass-requires-clause-going c =
    going_pops c.args.types.now c.args.starts.now c.args.arcs.now c.requires _ _ _ c.loop-frame.order.open.items c.pop.new.self.items c.in-Some.frame
    c.loop-frame.invariant.going c.in-Some.ensures.items

pub loop-frame-smaller : goal.loop-frame-smaller
loop-frame-smaller c =
    subst (λ l. left_of c.args.starts.now (length c.args.arcs.now) c.pass.new.visit.numbers.items c.pass.new.visit.open.items
    < left_of c.args.starts.now (length c.args.arcs.now) c.loop-frame.order.numbers.items l) (sym c.in-Some.ensures.items) c.in_ok-pass.ensures.falls

pub loop-frame-preserved : goal.loop-frame-preserved
loop-frame-preserved c =
    record {
      going = going_back c.args.types.now c.args.starts.now c.args.arcs.now c.requires (length c.loop-frame.order.numbers.items) _ _ _ _ c.loop-frame.invariant.going.numbers_all
          c.in_ok-pass.ensures.going;
      heights = subst (λ n. AreHeights (plan_of n c.args.starts.now c.args.arcs.now) c.pass.new.visit.closed.items c.pass.new.visit.heights.items)
          c.loop-frame.invariant.going.numbers_all c.in_ok-pass.ensures.heights;
    }

pub returns-in_err-pass-clause-err : goal.returns-in_err-pass-clause-err
returns-in_err-pass-clause-err c =
    let p = err_from_is_err_and c.from_residual-in_err-pass.result c.from_residual-in_err-pass.ensures.1 in
    rw (p.1, p.2)
    (clash_back c.args.types.now c.args.starts.now c.args.arcs.now c.requires (length c.loop-frame.order.numbers.items) c.in_err-pass.field-0.0
    c.loop-frame.invariant.going.numbers_all c.in_err-pass.ensures.err)

pub pass-requires-clause-heights : goal.pass-requires-clause-heights
pass-requires-clause-heights c =
    subst (λ n. AreHeights (plan_of n c.args.starts.now c.args.arcs.now) c.loop-frame.order.closed.items c.loop-frame.order.heights.items)
    (sym c.loop-frame.invariant.going.numbers_all) c.loop-frame.invariant.heights

pub returns-clause-ok : goal.returns-clause-ok
returns-clause-ok c =
    let over = nil_from_length c.loop-frame.order.open.items (let a = c.in_default.ensures.cases.0 in let ok = c.loop-frame.order.open.ok in omega arith) in
    order_is c.args.types.now c.args.starts.now c.args.arcs.now c.requires c.loop-frame.order.numbers.items c.loop-frame.order.order.items
    c.loop-frame.order.closed.items c.loop-frame.order.open.items over c.loop-frame.invariant.going c.loop-frame.order.heights.items c.loop-frame.invariant.heights
    _ (c.index.ensures ∙ get_or_default c.loop-frame.order.heights.items 0 _ 0 (omega (arith, c.loop-frame.invariant.heights.each, c.requires.filled)))
