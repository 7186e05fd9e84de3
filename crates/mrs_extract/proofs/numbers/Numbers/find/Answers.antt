use Rattle.std.proofs.Common.{◌≡◌, length, vec_len, arith, rules}
use Rattle.mrs_extract.proofs.Numbering.{found_at, other_at, past_at}
use Rattle.mrs_extract.proofs.numbers.Numbers.find.Goals as goal

pub returns-then-place-count : goal.returns-then-place-count
returns-then-place-count c =
    let n : vec_len c.self.inside.nodes ≡ length c.self.inside.nodes.items = search rules in
    past_at _ _ _ c.args.n _ c.self.view_is c.self.invariant c.requires c.index-at.ensures (omega (arith, n, c.len-count.ensures, c.if-place-count.true))

pub returns-then-known-n : goal.returns-then-known-n
returns-then-known-n c =
    let n : vec_len c.self.inside.nodes ≡ length c.self.inside.nodes.items = search rules in
    found_at _ _ _ c.args.n _ _ c.self.view_is (omega (arith, n, c.len-count.ensures, c.if-place-count.false)) c.index-known.ensures c.if-known-n.true

pub returns-else-known-n : goal.returns-else-known-n
returns-else-known-n c =
    let n : vec_len c.self.inside.nodes ≡ length c.self.inside.nodes.items = search rules in
    other_at _ _ _ c.args.n _ _ c.self.view_is c.self.invariant c.requires c.index-at.ensures (omega (arith, n, c.len-count.ensures, c.if-place-count.false)) c.index-known.ensures c.if-known-n.false
