use Rattle.std.proofs.Common.{◌≤◌, ◌∷◌, length, map, drop, sym, subst, arith}
use Rattle.profile_reports.specs.Inner.{has, IsCountOf}
use Rattle.profile_reports.proofs.Counting.{texts_before}
use Rattle.profile_reports.proofs.texts.count_all.Goals as goal

pub loop-i-preserved : goal.loop-i-preserved
loop-i-preserved c =
    let came = has c.args.came.now in
    let rest = map (λ t. t.items) (drop c.loop-i.i c.args.written.now) in
    let text = c.index-written-i.result in
    let low : c.loop-i.i ≤ length c.args.written.now = omega (arith, c.loop-i.invariant.room) in
    let before = texts_before c.args.written.now c.loop-i.i text (omega (arith, c.loop-i-test.true)) low c.index-written-i.is in
    let grown = subst (λ s. IsCountOf came (s ∷ rest) c.count.new.counted) c.as_slice.ensures.value (c.in_ok-count.ensures.counted rest c.loop-i.invariant.counted) in
    record {
      room = omega (arith, c.in_ok-count.ensures.room, c.loop-i.invariant.room, c.loop-i-test.true);
      counted = subst (λ l. IsCountOf came l c.count.new.counted) (sym before) grown;
    }
