use Rattle.std.proofs.Common.{◌≡◌, ◌<◌, ◌≤◌, length, vec_len, refl, arith, rules}
use Rattle.scope_model.specs.States.{IsMet}
use Rattle.scope_resolve.specs.Inner.Nets.{frame_in}
use Rattle.scope_resolve.specs.Inner.Filling.{state_of}
use Rattle.scope_resolve.proofs.Each.{each_more, each_whole, all_of}
use Rattle.scope_resolve.proofs.sounding.are_met.Goals as goal

pub loop-k-preserved : goal.loop-k-preserved
loop-k-preserved c =
    let n = c.args.net.now in
    let e : vec_len n.parts.qeqs ≡ length n.parts.qeqs.items = search rules in
    let l : c.loop-k.k < length n.parts.qeqs.items = omega (arith, e, c.len-k-end.ensures, c.loop-k-test.true) in
    each_more (IsMet (frame_in n.parts) (state_of c.args.trail.now)) n.parts.qeqs.items c.loop-k.k c.index-qeq.result.now l c.index-qeq.ensures c.loop-k.invariant (c.is_met.ensures.0 c.if-not-is_met.false)

pub returns : goal.returns
returns c =
    let n = c.args.net.now in
    let e : vec_len n.parts.qeqs ≡ length n.parts.qeqs.items = search rules in
    let l : length n.parts.qeqs.items ≤ c.loop-k.k = omega (arith, e, c.len-k-end.ensures, c.loop-k-test.false) in
    let P = IsMet (frame_in n.parts) (state_of c.args.trail.now) in
    (λ _. all_of P n.parts.qeqs.items (each_whole P n.parts.qeqs.items c.loop-k.k l c.loop-k.invariant), λ _. refl)
