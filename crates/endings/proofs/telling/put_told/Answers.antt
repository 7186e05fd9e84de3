use Rattle.std.proofs.Common.{◌+◌, add-one, arith, refl, sym, subst, take, Result, Err}
use Rattle.std.proofs.lemmas.List.{take_all}
use Rattle.std.proofs.lemmas.Result.{err_from_is_err_and}
use Rattle.std.specs.List.{concat}
use Rattle.lkb_io.specs.Outside.{Adds}
use Rattle.lkb_io.proofs.Told.{Adds-none}
use Rattle.endings.specs.declared.Stop.{Stop}
use Rattle.endings.specs.Inner.Batches.{IsToldPut, lines_of_all}
use Rattle.endings.proofs.ToldLines.{told-more, put-front}
use Rattle.endings.proofs.telling.put_told.Goals as goal

pub loop-place-init : goal.loop-place-init
loop-place-init g c = record { added = Adds-none (g.O.Sink.written c.args.out.now); no_fall = omega arith }

pub returns-in_err-put_one-clause-put : goal.returns-in_err-put_one-clause-put
returns-in_err-put_one-clause-put g c =
    let written = g.O.Sink.written in
    let faults = g.O.Sink.faults in
    let told = c.args.told.now in
    let place = c.loop-place.place in
    let stop = c.in_err-put_one.field-0.0 in
    let t = c.loop-place-test.true in
    let rise = c.loop-place.invariant.no_fall in
    let s = put-front c.args.number told place c.index-told-place.result (written c.args.out.now) (written c.loop-place.out) (written c.put_one.new.out) (faults c.args.out.now) (faults c.loop-place.out) (faults c.put_one.new.out) stop t (sym c.index-told-place.is) c.loop-place.invariant.added rise c.in_err-put_one.ensures.put in
    let p = err_from_is_err_and c.from_residual.result c.from_residual.ensures.1 in
    let put = λ (r : Result (Unit {0}) Stop). IsToldPut (concat (lines_of_all c.args.number told)) (written c.args.out.now) (written c.put_one.new.out) (faults c.args.out.now) (faults c.put_one.new.out) r in
    subst put (sym p.1) (subst (λ e. put (Err e)) (sym p.2) s)

pub returns-in_err-put_one-clause-no_fall : goal.returns-in_err-put_one-clause-no_fall
returns-in_err-put_one-clause-no_fall g c =
    let a = c.loop-place.invariant.no_fall in
    let b = c.in_err-put_one.ensures.no_fall in
    omega (arith, a, b)

pub loop-place-preserved : goal.loop-place-preserved
loop-place-preserved g c =
    let written = g.O.Sink.written in
    let told = c.args.told.now in
    let place = c.loop-place.place in
    let t = c.loop-place-test.true in
    let a = c.loop-place.invariant.no_fall in
    let b = c.in_ok-put_one.ensures.no_fall in
    let more = told-more c.args.number (c.args.number + place) told place c.index-told-place.result (written c.args.out.now) (written c.loop-place.out) (written c.put_one.new.out) t (sym c.index-told-place.is) refl c.loop-place.invariant.added c.in_ok-put_one.ensures.put in
    record {
      added = subst (λ k. Adds (written c.args.out.now) (written c.put_one.new.out) (concat (lines_of_all c.args.number (take k told)))) (sym (add-one place)) more;
      no_fall = omega (arith, a, b);
    }

pub returns-clause-put : goal.returns-clause-put
returns-clause-put g c =
    let t = c.loop-place-test.false in
    subst (λ ts. Adds (g.O.Sink.written c.args.out.now) (g.O.Sink.written c.loop-place.out) (concat (lines_of_all c.args.number ts))) (take_all c.loop-place.place c.args.told.now (omega (arith, t))) c.loop-place.invariant.added
