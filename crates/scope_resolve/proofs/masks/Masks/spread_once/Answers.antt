use Rattle.std.proofs.Common.{◌≡◌, ◌<◌, length, vec_len, arith, rules}
use Rattle.scope_resolve.proofs.Each.{there_at}
use Rattle.scope_resolve.proofs.masks.Masks.spread_once.Goals as goal

pub loop-k-preserved : goal.loop-k-preserved
loop-k-preserved c = λ f s seen plan old.
    let xs = c.args.live.now.pairs in
    let e : vec_len xs ≡ length xs.items = search rules in
    let lt : c.loop-k.k < length xs.items = omega (arith, e, c.len-k-end.ensures, c.loop-k-test.true) in
    let there = there_at xs.items c.loop-k.k c.index.result.now lt c.index.ensures in
    c.go_together.ensures f s seen (plan c.index.result.now there) (c.loop-k.invariant f s seen plan old)
