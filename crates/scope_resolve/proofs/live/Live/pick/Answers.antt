use Rattle.std.proofs.Common.{◌≡◌, ◌<◌, [], length, vec_len, subst, arith, rules}
use Rattle.std.specs.Prelude.{Contains}
use Rattle.scope_model.proofs.Lists.{in_of}
use Rattle.scope_resolve.proofs.Each.{there_at}
use Rattle.scope_resolve.proofs.live.Live.pick.Goals as goal

pub loop-k-init : goal.loop-k-init
loop-k-init c = λ f plan k m. absurd (in_of [] k (subst (λ ks. Contains ks k) c.clear.ensures.items m))

pub loop-k-preserved : goal.loop-k-preserved
loop-k-preserved c = λ f plan.
    let xs = c.args.plan.now.pairs in
    let e : vec_len xs ≡ length xs.items = search rules in
    let lt : c.loop-k.k < length xs.items = omega (arith, e, c.len-k-end.ensures, c.loop-k-test.true) in
    let there = there_at xs.items c.loop-k.k c.index.result.now lt c.index.ensures in
    c.in_ok-put.ensures.live f (plan.pairs c.index.result.now there) (c.loop-k.invariant f plan)

pub returns-then-not-branch-clause-torn : goal.returns-then-not-branch-clause-torn
returns-then-not-branch-clause-torn c = λ y f s seen plan.
    let xs = c.args.plan.now.pairs in
    let e : vec_len xs ≡ length xs.items = search rules in
    let lt : c.loop-k.k < length xs.items = omega (arith, e, c.len-k-end.ensures, c.loop-k-test.true) in
    let there = there_at xs.items c.loop-k.k c.index.result.now lt c.index.ensures in
    c.in_ok-put.ensures.torn c.if-not-branch.true f s seen (plan.pairs c.index.result.now there)

pub returns-then-not-branch-clause-live : goal.returns-then-not-branch-clause-live
returns-then-not-branch-clause-live c = λ f plan.
    let xs = c.args.plan.now.pairs in
    let e : vec_len xs ≡ length xs.items = search rules in
    let lt : c.loop-k.k < length xs.items = omega (arith, e, c.len-k-end.ensures, c.loop-k-test.true) in
    let there = there_at xs.items c.loop-k.k c.index.result.now lt c.index.ensures in
    c.in_ok-put.ensures.live f (plan.pairs c.index.result.now there) (c.loop-k.invariant f plan)
