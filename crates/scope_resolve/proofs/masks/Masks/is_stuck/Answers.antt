use Rattle.std.proofs.Common.{◌≡◌, ◌<◌, length, vec_len, arith, rules}
use Rattle.scope_resolve.specs.Inner.Nets.{frame_in}
use Rattle.scope_resolve.proofs.Each.{there_at}
use Rattle.scope_resolve.proofs.masks.Masks.is_stuck.Goals as goal

pub returns-then-is_homeless : goal.returns-then-is_homeless
returns-then-is_homeless c = λ y s seen are.
    let n = c.args.net.now in
    let e : vec_len n.labels ≡ length n.labels.items = search rules in
    let lt : c.loop-k.k < length n.labels.items = omega (arith, e, c.len-k-end.ensures, c.loop-k-test.true) in
    let there = there_at n.labels.items c.loop-k.k c.index.result.now lt c.index.ensures in
    c.is_homeless.ensures c.if-is_homeless.true (frame_in n.parts) s seen ((c.requires.labels c.index.result.now).0 there) are
