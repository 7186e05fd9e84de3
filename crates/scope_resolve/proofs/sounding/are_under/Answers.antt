use Rattle.std.proofs.Common.{◌≡◌, ◌<◌, ◌≤◌, length, vec_len, refl, arith, rules}
use Rattle.scope_model.specs.States.{IsUnder}
use Rattle.scope_resolve.specs.Inner.Nets.{frame_in}
use Rattle.scope_resolve.specs.Inner.Filling.{state_of}
use Rattle.scope_resolve.proofs.Each.{each_more, each_whole, all_of}
use Rattle.scope_resolve.proofs.sounding.are_under.Goals as goal

pub loop-k-preserved : goal.loop-k-preserved
loop-k-preserved c =
    let n = c.args.net.now in
    let e : vec_len n.parts.bindings ≡ length n.parts.bindings.items = search rules in
    let l : c.loop-k.k < length n.parts.bindings.items = omega (arith, e, c.len-k-end.ensures, c.loop-k-test.true) in
    each_more (IsUnder (frame_in n.parts) (state_of c.args.trail.now)) n.parts.bindings.items c.loop-k.k c.index-binding.result.now l c.index-binding.ensures c.loop-k.invariant (c.is_under.ensures.0 c.if-not-is_under.false)

pub returns : goal.returns
returns c =
    let n = c.args.net.now in
    let e : vec_len n.parts.bindings ≡ length n.parts.bindings.items = search rules in
    let l : length n.parts.bindings.items ≤ c.loop-k.k = omega (arith, e, c.len-k-end.ensures, c.loop-k-test.false) in
    let P = IsUnder (frame_in n.parts) (state_of c.args.trail.now) in
    (λ _. all_of P n.parts.bindings.items (each_whole P n.parts.bindings.items c.loop-k.k l c.loop-k.invariant), λ _. refl)
