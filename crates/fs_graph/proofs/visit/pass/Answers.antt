use Rattle.std.proofs.Common.{◌+◌, length, slice_index, sym, ◌∙◌, ap, subst, arith}
use Rattle.fs_graph.specs.Visits.{plan_of}
use Rattle.fs_graph.specs.Inner.Going.{IsVisitable}
use Rattle.fs_graph.specs.Inner.Heights.{IsAbove}
use Rattle.fs_graph.proofs.HeightLemmas.{heights_close}
use Rattle.fs_graph.proofs.VisitCode.{frame_in, next_in, target_in, visit_closes, less_closes, pass_enters, pass_goes_on, pass_clashes}
use Rattle.fs_graph.proofs.visit.pass.Goals as goal

pub bounds-starts-node : goal.bounds-starts-node
bounds-starts-node c =
    let node = (frame_in (length c.args.visit.now.numbers.items) c.args.starts.now c.args.arcs.now c.requires.able c.args.visit.now.numbers.items c.args.visit.now.order.items c.args.visit.now.closed.items c.args.visit.now.open.items c.args.frame c.requires.going).0 in
    let one = c.requires.able.one_more in
    omega arith

pub index_mut-requires : goal.index_mut-requires
index_mut-requires c =
    let node = (frame_in (length c.args.visit.now.numbers.items) c.args.starts.now c.args.arcs.now c.requires.able c.args.visit.now.numbers.items c.args.visit.now.order.items c.args.visit.now.closed.items c.args.visit.now.open.items c.args.frame c.requires.going).0 in
    let all = c.requires.going.closed_all in
    let ok = c.args.visit.now.closed.ok in
    omega arith

pub returns-then-next-starts-clause-going : goal.returns-then-next-starts-clause-going
returns-then-next-starts-clause-going c = visit_closes (length c.args.visit.now.numbers.items) c.args.starts.now c.args.arcs.now c.requires.able c.args.visit.now.numbers.items c.args.visit.now.order.items c.args.visit.now.closed.items c.args.visit.now.open.items c.args.frame c.requires.going c.if-next-starts.true

pub returns-then-next-starts-clause-falls : goal.returns-then-next-starts-clause-falls
returns-then-next-starts-clause-falls c = less_closes (length c.args.visit.now.numbers.items) c.args.starts.now c.args.arcs.now c.requires.able c.args.visit.now.numbers.items c.args.visit.now.order.items c.args.visit.now.closed.items c.args.visit.now.open.items c.args.frame c.requires.going

pub bounds-arcs-next : goal.bounds-arcs-next
bounds-arcs-next c = (next_in (length c.args.visit.now.numbers.items) c.args.starts.now c.args.arcs.now c.requires.able c.args.visit.now.numbers.items c.args.visit.now.order.items c.args.visit.now.closed.items c.args.visit.now.open.items c.args.frame c.requires.going c.if-next-starts.false).1

pub overflow_add-further : goal.overflow_add-further
overflow_add-further c =
    let high = (next_in (length c.args.visit.now.numbers.items) c.args.starts.now c.args.arcs.now c.requires.able c.args.visit.now.numbers.items c.args.visit.now.order.items c.args.visit.now.closed.items c.args.visit.now.open.items c.args.frame c.requires.going c.if-next-starts.false).0.1 in
    let fits = (c.type_inv.starts (c.args.frame.node + 1)).fits in
    record { fits = omega arith }

pub index-requires : goal.index-requires
index-requires c =
    let at = (target_in (length c.args.visit.now.numbers.items) c.args.starts.now c.args.arcs.now c.requires.able c.args.visit.now.numbers.items c.args.visit.now.order.items c.args.visit.now.closed.items c.args.visit.now.open.items c.args.frame c.requires.going c.if-next-starts.false).1 in
    let ok = c.args.visit.now.numbers.ok in
    omega arith

pub bounds-starts-to : goal.bounds-starts-to
bounds-starts-to c = (target_in (length c.args.visit.now.numbers.items) c.args.starts.now c.args.arcs.now c.requires.able c.args.visit.now.numbers.items c.args.visit.now.order.items c.args.visit.now.closed.items c.args.visit.now.open.items c.args.frame c.requires.going c.if-next-starts.false).3

pub enter-requires-clause-node : goal.enter-requires-clause-node
enter-requires-clause-node c = (target_in (length c.args.visit.now.numbers.items) c.args.starts.now c.args.arcs.now c.requires.able c.args.visit.now.numbers.items c.args.visit.now.order.items c.args.visit.now.closed.items c.args.visit.now.open.items c.args.frame c.requires.going c.if-next-starts.false).1

pub returns-then-index-clause-going : goal.returns-then-index-clause-going
returns-then-index-clause-going c =
    (pass_enters (length c.args.visit.now.numbers.items) c.args.starts.now c.args.arcs.now c.requires.able c.args.visit.now.numbers.items c.args.visit.now.order.items c.args.visit.now.closed.items c.args.visit.now.open.items c.args.frame c.requires.going c.if-next-starts.false c.index.result.now c.index.ensures c.if-index.true _ _ _ _ _ c.in_ok-enter.ensures.numbers c.in_ok-enter.ensures.order
    c.in_ok-enter.ensures.closed c.in_ok-push.ensures.items c.in_ok-enter.ensures.open).0

pub returns-then-index-clause-falls : goal.returns-then-index-clause-falls
returns-then-index-clause-falls c =
    (pass_enters (length c.args.visit.now.numbers.items) c.args.starts.now c.args.arcs.now c.requires.able c.args.visit.now.numbers.items c.args.visit.now.order.items c.args.visit.now.closed.items c.args.visit.now.open.items c.args.frame c.requires.going c.if-next-starts.false c.index.result.now c.index.ensures c.if-index.true _ _ _ _ _ c.in_ok-enter.ensures.numbers c.in_ok-enter.ensures.order
    c.in_ok-enter.ensures.closed c.in_ok-push.ensures.items c.in_ok-enter.ensures.open).1

pub index-requires-2 : goal.index-requires-2
index-requires-2 c =
    let at = (target_in (length c.args.visit.now.numbers.items) c.args.starts.now c.args.arcs.now c.requires.able c.args.visit.now.numbers.items c.args.visit.now.order.items c.args.visit.now.closed.items c.args.visit.now.open.items c.args.frame c.requires.going c.if-next-starts.false).2 in
    let ok = c.args.visit.now.closed.ok in
    omega arith

pub returns-then-not-index-clause-err : goal.returns-then-not-index-clause-err
returns-then-not-index-clause-err c =
    pass_clashes (length c.args.visit.now.numbers.items) c.args.starts.now c.args.arcs.now c.requires.able c.args.visit.now.numbers.items c.args.visit.now.order.items c.args.visit.now.closed.items c.args.visit.now.open.items c.args.frame c.requires.going c.if-next-starts.false c.index.result.now c.index.ensures c.if-index.false c.index-2.result.now c.index-2.ensures c.if-not-index.true

pub returns-clause-going : goal.returns-clause-going
returns-clause-going c =
    (pass_goes_on (length c.args.visit.now.numbers.items) c.args.starts.now c.args.arcs.now c.requires.able c.args.visit.now.numbers.items c.args.visit.now.order.items c.args.visit.now.closed.items c.args.visit.now.open.items c.args.frame c.requires.going c.if-next-starts.false c.index-2.result.now c.index-2.ensures c.if-not-index.false _ c.in_ok-push-2.ensures.items).0

pub returns-clause-falls : goal.returns-clause-falls
returns-clause-falls c =
    (pass_goes_on (length c.args.visit.now.numbers.items) c.args.starts.now c.args.arcs.now c.requires.able c.args.visit.now.numbers.items c.args.visit.now.order.items c.args.visit.now.closed.items c.args.visit.now.open.items c.args.frame c.requires.going c.if-next-starts.false c.index-2.result.now c.index-2.ensures c.if-not-index.false _ c.in_ok-push-2.ensures.items).1

pub height_above-requires-clause-able : goal.height_above-requires-clause-able
height_above-requires-clause-able c =
    let same = ap length c.deref.ensures.value ∙ c.requires.heights.each in
    subst (λ n. IsVisitable n c.args.starts.now c.args.arcs.now) (sym same) c.requires.able

pub height_above-requires-clause-node : goal.height_above-requires-clause-node
height_above-requires-clause-node c =
    let node = (frame_in (length c.args.visit.now.numbers.items) c.args.starts.now c.args.arcs.now c.requires.able c.args.visit.now.numbers.items c.args.visit.now.order.items c.args.visit.now.closed.items c.args.visit.now.open.items c.args.frame c.requires.going).0 in
    omega (arith, node, ap length c.deref.ensures.value, c.requires.heights.each)

pub returns-then-next-starts-clause-heights : goal.returns-then-next-starts-clause-heights
returns-then-next-starts-clause-heights c =
    let v = c.args.visit.now in
    let starts = c.args.starts.now in
    let arcs = c.args.arcs.now in
    let h = c.in_ok-height.height in
    let node = c.args.frame.node in
    let above = subst (λ l. IsAbove (plan_of (length l) starts arcs) (slice_index l) node (slice_index starts (node + 1)) h) c.deref.ensures.value c.in_ok-height.ensures in
    heights_close (length v.numbers.items) starts arcs c.requires.able v.numbers.items v.order.items v.closed.items v.open.items c.args.frame c.requires.going
    c.if-next-starts.true v.heights.items h c.requires.heights
    (subst (λ n. IsAbove (plan_of n starts arcs) (slice_index v.heights.items) node (slice_index starts (node + 1)) h) c.requires.heights.each above)

pub index_mut-requires-then-next-starts : goal.index_mut-requires-then-next-starts
index_mut-requires-then-next-starts c =
    let node = (frame_in (length c.args.visit.now.numbers.items) c.args.starts.now c.args.arcs.now c.requires.able c.args.visit.now.numbers.items c.args.visit.now.order.items c.args.visit.now.closed.items c.args.visit.now.open.items c.args.frame c.requires.going).0 in
    let all = c.requires.going.closed_all in
    let ok = c.args.visit.now.closed.ok in
    omega arith
