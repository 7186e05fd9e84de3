use Rattle.std.proofs.Common.{◌≡◌, ◌<◌, ◌≤◌, length, vec_len, subst, sym, arith, rules}
use Rattle.scope_resolve.specs.Inner.Nets.{frame_in}
use Rattle.scope_resolve.specs.Inner.Pruning.{IsPlan}
use Rattle.scope_resolve.proofs.Rooting.{one_on, one_over, one_end}
use Rattle.scope_resolve.proofs.Owning.{read_zero}
use Rattle.scope_resolve.proofs.roots.fill_all.Goals as goal

pub returns-then-not-branch : goal.returns-then-not-branch
returns-then-not-branch c =
    let n = c.args.net.now in
    let e : vec_len n.labels ≡ length n.labels.items = search rules in
    let lt : c.loop-k.k < length n.labels.items = omega (arith, e, c.len-k-end.ensures, c.loop-k-test.true) in
    one_over n c.requires.net c.args.max c.loop-k.k c.index-root.result.now _ _ _ lt (read_zero n.labels.items c.loop-k.k c.index-root.result.now lt c.index-root.ensures) c.loop-k.invariant.found (rw c.if-not-branch.true at c.in_ok-fill_root.ensures.found)

pub loop-k-preserved : goal.loop-k-preserved
loop-k-preserved c =
    let n = c.args.net.now in
    let e : vec_len n.labels ≡ length n.labels.items = search rules in
    let lt : c.loop-k.k < length n.labels.items = omega (arith, e, c.len-k-end.ensures, c.loop-k-test.true) in
    record {
      plan = subst (IsPlan (frame_in n.parts)) (sym c.in_ok-fill_root.ensures.plan) c.loop-k.invariant.plan;
      found = one_on n c.requires.net c.args.max c.loop-k.k c.index-root.result.now _ _ _ lt (read_zero n.labels.items c.loop-k.k c.index-root.result.now lt c.index-root.ensures) c.loop-k.invariant.found (rw c.if-not-branch.false at c.in_ok-fill_root.ensures.found);
    }

pub returns : goal.returns
returns c =
    let n = c.args.net.now in
    let e : vec_len n.labels ≡ length n.labels.items = search rules in
    let le : length n.labels.items ≤ c.loop-k.k = omega (arith, e, c.len-k-end.ensures, c.loop-k-test.false) in
    one_end n c.requires.net c.args.max c.loop-k.k _ _ le c.loop-k.invariant.found
