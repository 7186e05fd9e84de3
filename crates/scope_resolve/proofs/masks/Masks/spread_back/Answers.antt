use Rattle.std.proofs.Common.{◌<◌, ◌≤◌, ◌-◌, length, arith}
use Rattle.scope_resolve.proofs.Each.{there_at}
use Rattle.scope_resolve.proofs.masks.Masks.spread_back.Goals as goal

pub loop-left-preserved-then-go_together : goal.loop-left-preserved-then-go_together
loop-left-preserved-then-go_together c =
    let xs = c.args.live.now.pairs in
    let at = c.loop-left.left - 1 in
    let w = c.loop-left.invariant.within in
    let lt : at < length xs.items = omega (arith, w, c.loop-left-test.true) in
    let le : at ≤ length xs.items = omega (arith, w) in
    record {
      within = le;
      kept = λ f s seen live old. c.go_together.ensures f s seen (live c.index.result.now (there_at xs.items at c.index.result.now lt c.index.ensures)) (c.loop-left.invariant.kept f s seen live old);
    }

pub loop-left-preserved : goal.loop-left-preserved
loop-left-preserved c =
    let xs = c.args.live.now.pairs in
    let at = c.loop-left.left - 1 in
    let w = c.loop-left.invariant.within in
    let lt : at < length xs.items = omega (arith, w, c.loop-left-test.true) in
    let le : at ≤ length xs.items = omega (arith, w) in
    record {
      within = le;
      kept = λ f s seen live old. c.go_together.ensures f s seen (live c.index.result.now (there_at xs.items at c.index.result.now lt c.index.ensures)) (c.loop-left.invariant.kept f s seen live old);
    }
