use Rattle.std.proofs.Common.{◌≡◌, length, vec_len, arith, rules}
use Rattle.mrs_text.proofs.Placing.{seen_at, other_at, past_at}
use Rattle.mrs_text.proofs.seen.Seen.number.Goals as goal

pub returns-then-at-count : goal.returns-then-at-count
returns-then-at-count c =
    let n : vec_len c.self.inside.order ≡ length c.self.inside.order.items = search rules in
    past_at _ _ _ c.args.v _ c.self.view_is c.self.invariant c.requires c.index-at.ensures (omega (arith, n, c.len-count.ensures, c.if-at-count.true))

pub returns-then-known-v : goal.returns-then-known-v
returns-then-known-v c =
    let n : vec_len c.self.inside.order ≡ length c.self.inside.order.items = search rules in
    seen_at _ _ _ c.args.v _ _ c.self.view_is c.self.invariant c.requires c.index-at.ensures (omega (arith, n, c.len-count.ensures, c.if-at-count.false)) c.index-known.ensures c.if-known-v.true

pub returns-else-known-v : goal.returns-else-known-v
returns-else-known-v c =
    let n : vec_len c.self.inside.order ≡ length c.self.inside.order.items = search rules in
    other_at _ _ _ c.args.v _ _ c.self.view_is c.self.invariant c.requires c.index-at.ensures (omega (arith, n, c.len-count.ensures, c.if-at-count.false)) c.index-known.ensures c.if-known-v.false
