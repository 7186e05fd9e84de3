use Rattle.std.proofs.Common.{◌≡◌, ◌<◌, ◌≤◌, length, vec_len, sym, subst, arith, rules}
use Rattle.scope_resolve.specs.Inner.Nets.{frame_in}
use Rattle.scope_resolve.specs.Inner.Filling.{state_of}
use Rattle.scope_resolve.proofs.Seeing.{AreListed, listed_first, listed_more, listed_end}
use Rattle.scope_resolve.proofs.ways.list_opens.Goals as goal

pub loop-k-init : goal.loop-k-init
loop-k-init c =
    let f = frame_in c.args.net.now.parts in
    let s = state_of c.args.trail.now in
    subst (AreListed f s 0) (sym c.clear.ensures.items) (listed_first f s)

pub loop-k-preserved : goal.loop-k-preserved
loop-k-preserved c =
    let n = c.args.net.now in
    let e : vec_len n.parts.openings ≡ length n.parts.openings.items = search rules in
    let l : c.loop-k.k < length n.parts.openings.items = omega (arith, e, c.len-k-end.ensures, c.loop-k-test.true) in
    listed_more (frame_in n.parts) (state_of c.args.trail.now) c.loop-k.k c.index-opening.result.now l c.index-opening.ensures c.is_free-is_open.result c.is_free-is_open.ensures
    c.loop-k.opens.items _ c.in_ok-list_open.ensures.open c.in_ok-list_open.ensures.other c.loop-k.invariant

pub returns : goal.returns
returns c =
    let n = c.args.net.now in
    let e : vec_len n.parts.openings ≡ length n.parts.openings.items = search rules in
    let l : length n.parts.openings.items ≤ c.loop-k.k = omega (arith, e, c.len-k-end.ensures, c.loop-k-test.false) in
    listed_end (frame_in n.parts) (state_of c.args.trail.now) c.loop-k.k c.loop-k.opens.items l c.loop-k.invariant
