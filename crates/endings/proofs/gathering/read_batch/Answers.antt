use Rattle.std.proofs.Common.{rules, arith, ◌++◌, ◌∙◌, ℕ, List, Bool, Vec, Global, map, sym, ap, subst, append-nil, length, Err}
use Rattle.std.proofs.lemmas.Result.{err_from_is_err_and}
use Rattle.endings.specs.Readings.{ReadsSoFar}
use Rattle.endings.specs.Inner.Batches.{Gathered}
use Rattle.endings.proofs.Batching.{gathered-later}
use Rattle.endings.proofs.gathering.read_batch.Goals as goal

abbrev items : Vec ℕ Global → List ℕ
items v = v.items

pub loop-count-init : goal.loop-count-init
loop-count-init g c = record {
  so_far = λ old before h. subst (ReadsSoFar old (g.I.Source.left c.args.input.now) c.args.held.now.bytes c.args.held.now.ended) (sym (ap (λ l. before ++ map items l) c.requires.none_yet ∙ append-nil before)) h;
  before = λ old before h. h;
  one_each = ap length c.requires.none_yet;
  no_fall = omega arith;
}

pub loop-count-preserved : goal.loop-count-preserved
loop-count-preserved g c =
    let inv = c.loop-count.invariant in
    let one = c.in_ok-take_line.ensures.one in
    let n = inv.one_each in
    let a = inv.no_fall in
    let b = c.in_ok-take_line.ensures.no_fall in
    let one_more = one (search rules) in
    record {
      so_far = λ old before h. c.in_ok-take_line.ensures.gathered old before (inv.so_far old before h);
      before = λ old before h. c.in_ok-take_line.ensures.before old before (inv.before old before h);
      one_each = omega (arith, one_more, n);
      no_fall = omega (arith, a, b);
    }

pub returns-in_err-take_line-clause-gathered : goal.returns-in_err-take_line-clause-gathered
returns-in_err-take_line-clause-gathered g c old before h =
    let inv = c.loop-count.invariant in
    let left = g.I.Source.left in
    let faults = g.I.Source.faults in
    let p = err_from_is_err_and c.from_residual.result c.from_residual.ensures.1 in
    let lines = before ++ map items c.take_line.new.lines.items in
    let s = gathered-later Bool ℕ old (left c.take_line.new.input) (faults c.args.input.now) (faults c.loop-count.input) (faults c.take_line.new.input) c.take_line.new.held lines c.in_err-take_line.field-0.0 inv.no_fall (c.in_err-take_line.ensures.gathered old before (inv.so_far old before h)) in
    subst (Gathered {X = ℕ} old (left c.take_line.new.input) (faults c.args.input.now) (faults c.take_line.new.input) c.take_line.new.held lines) (sym (p.1 ∙ ap Err p.2)) s
