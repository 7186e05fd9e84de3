use Rattle.std.proofs.Common.{◌≡◌, ◌≤◌, length, vec_len, arith, rules}
use Rattle.scope_resolve.proofs.Masking.{wide}
use Rattle.scope_resolve.proofs.masks.Masks.widen.Goals as goal

pub returns : goal.returns
returns c =
    let xs = c.args.self.now.sets in
    let e : vec_len xs ≡ length xs.items = search rules in
    let le : length c.loop-k.self.sets.items ≤ c.loop-k.k = omega (arith, e, c.len-k-end.ensures, c.loop-k-test.false, c.loop-k.invariant.size) in
    wide c.loop-k.self.sets.items c.loop-k.k c.all-all.result le c.all-all.ensures.is c.all-all.ensures.has c.loop-k.invariant.each
