use Rattle.std.proofs.Common.{◌≡◌, ◌<◌, length, vec_len, arith, rules}
use Rattle.scope_resolve.proofs.Each.{there_at}
use Rattle.scope_resolve.proofs.Masking.{root_reaches}
use Rattle.scope_resolve.proofs.masks.Masks.go_from_root.Goals as goal

pub loop-k-preserved : goal.loop-k-preserved
loop-k-preserved c = λ f s seen root plan old.
    let xs = c.args.plan.now.root_chains in
    let e : vec_len xs ≡ length xs.items = search rules in
    let lt : c.loop-k.k < length xs.items = omega (arith, e, c.len-k-end.ensures, c.loop-k-test.true) in
    let there = there_at xs.items c.loop-k.k c.index-to.result.now lt c.index-to.ensures in
    c.go_along.ensures f s seen (root_reaches f s c.args.root c.index-to.result.now root (plan.root c.index-to.result.now there)).0 (root_reaches f s c.args.root c.index-to.result.now root (plan.root c.index-to.result.now there)).1 (c.loop-k.invariant f s seen root plan old)
