use Rattle.std.proofs.Common.{arith, ◌+◌, ◌++◌, ◌∙◌, sym, ap, refl, subst, ◌≡◌, Result, Ok, Err, length, length-append, map, List, [], ℕ, Bool, false, inr, ◌||◌, IfOk}
use Rattle.std.proofs.lemmas.Result.{err_from_is_err_and}
use Rattle.std.specs.List.{concat}
use Rattle.std.proofs.lemmas.List.{length-map}
use Rattle.std.proofs.lemmas.List.Folds.{concat-append}
use Rattle.lkb_io.specs.Outside.{Adds}
use Rattle.lkb_io.proofs.Told.{Adds-more, Adds-none}
use Rattle.endings.specs.declared.Stop.TheVariants.{Read, TooLong, TooMany, Write, Gaps, NoMemory}
use Rattle.endings.specs.Readings.{ReadsSoFar}
use Rattle.endings.specs.Stops.{stop_of}
use Rattle.endings.specs.declared.Stop.{Stop}
use Rattle.endings.specs.Reports.{Streams, streams}
use Rattle.endings.specs.Inner.Batches.{Gathered, AreTold, none_told, ServedBatch, IsFlag, Ends, Told}
use Rattle.endings.proofs.Reading.{so_far-either, so_far-none}
use Rattle.endings.proofs.Flushing.{Adds-same}
use Rattle.endings.proofs.Exits.{at-nothing}
use Rattle.endings.proofs.ToldLines.{AreTold-append}
use Rattle.endings.proofs.Batching.{gathered-some, at-batch, at-read}
use Rattle.endings.proofs.in_turn.serve_lines.Goals as goal
use Rattle.endings.proofs.in_turn.serve_lines.Goals.{then-refused, else-refused}

-- how the run ends, by what is told
abbrev Ended : (answers : ℕ → List ℕ → List (List ℕ) → Bool → Type 0) → Streams → Bool → Result Bool Stop → Type 0
Ended answers o later end = (wanting : Bool) × IsFlag end false wanting later × Ends (Told answers wanting) o end

-- a stop that isn't for want of memory
stopped : (answers : ℕ → List ℕ → List (List ℕ) → Bool → Type 0) (o : Streams) (later : Bool) (stop : Stop) → Ends (Told answers later) o (Err stop) → Ended answers o later (Err stop)
stopped answers o later Read s = (later, refl, s)
stopped answers o later TooLong s = (later, refl, s)
stopped answers o later TooMany s = (later, refl, s)
stopped answers o later Write s = (later, refl, s)
stopped answers o later Gaps s = (later, refl, s)
stopped answers o later NoMemory s = (later, cc, s)

pub loop-count-init : goal.loop-count-init
loop-count-init g c = record {
  read = ([], [], so_far-none (g.I.Source.left c.args.input.now) c.new-held.result c.new-held.ensures, subst (λ w. AreTold (g.C.Answers.IsAnswer c.args.command.now) 1 [] [] false w) (sym c.requires.none_yet) (none_told 1), Adds-none (g.O.Sink.written c.args.out.now), refl);
  no_fall_in = omega arith;
  no_fall_out = omega arith;
}

pub returns-in_err-flush_before_read-clause-ends : goal.returns-in_err-flush_before_read-clause-ends
returns-in_err-flush_before_read-clause-ends g c =
    let p = err_from_is_err_and c.from_residual.result c.from_residual.ensures.1 in
    let o : Streams = streams g.I.Source.left g.I.Source.faults g.O.Sink.written g.O.Sink.flushed g.O.Sink.faults c.args.input.now c.loop-count.input c.args.out.now c.flush_before_read.new.out in
    let answers = g.C.Answers.IsAnswer c.args.command.now in
    let w = c.loop-count.kept.wanting in
    let r = c.loop-count.invariant.read in
    let held = c.loop-count.held in
    let risen = c.in_err-flush_before_read.ensures.failed in
    let below = c.loop-count.invariant.no_fall_out in
    let s : Ends (Told answers w) o (Err Write) = (at-nothing (Told answers w) o (g.O.Sink.written c.loop-count.out) held.bytes r.0 r.1 c.loop-count.refused (so_far-either o.left_old o.left_new held.bytes held.ended r.0 r.2) r.3 r.4 c.in_err-flush_before_read.ensures.same, omega (arith, risen, below)) in
    subst (Ended answers o w) (sym (p.1 ∙ ap Err p.2)) (stopped answers o w Write s)

pub returns-in_err-batch_refused-clause-ends : goal.returns-in_err-batch_refused-clause-ends
returns-in_err-batch_refused-clause-ends g c =
    let w4 = Adds-same (g.O.Sink.written c.args.out.now) (g.O.Sink.written c.loop-count.out) (g.O.Sink.written c.flush_before_read.new.out) (concat c.loop-count.invariant.read.1) c.loop-count.invariant.read.4 c.in_ok-flush_before_read.ensures.same in
    let fb = c.in_ok-flush_before_read.ensures.no_fall in
    let left = g.I.Source.left in
    let written = g.O.Sink.written in
    let answers = g.C.Answers.IsAnswer c.args.command.now in
    let r = c.loop-count.invariant.read in
    let held = c.loop-count.held in
    let batch = map (λ l. l.items) c.read_batch-read.new.lines.items in
    let old = left c.args.input.now in
    let some = gathered-some old (left c.read_batch-read.new.input) (g.I.Source.faults c.loop-count.input) (g.I.Source.faults c.read_batch-read.new.input) c.read_batch-read.new.held (r.0 ++ batch) c.read_batch-read.result (c.read_batch-read.ensures.gathered old r.0 r.2) in
    let n = r.5 in
    let number : c.loop-count.count + 1 ≡ 1 + length r.0 = omega (arith, n) in
    let p = err_from_is_err_and c.from_residual-in_err-batch_refused.result c.from_residual-in_err-batch_refused.ensures.1 in
    let o : Streams = streams left g.I.Source.faults written g.O.Sink.flushed g.O.Sink.faults c.args.input.now c.read_batch-read.new.input c.args.out.now c.serve_batch.new.out in
    let stop = c.in_err-batch_refused.field-0.0 in
    let served = subst (λ l. ServedBatch answers (c.loop-count.count + 1) (map (λ l. l.items) l) (written c.flush_before_read.new.out) (written c.serve_batch.new.out) (g.O.Sink.faults c.flush_before_read.new.out) (g.O.Sink.faults c.serve_batch.new.out) c.loop-count.kept.wanting c.serve_batch.new.kept.wanting (Err stop)) c.deref.ensures.value c.in_err-batch_refused.ensures.outcome in
    let s = at-batch answers o (written c.flush_before_read.new.out) (g.O.Sink.faults c.flush_before_read.new.out) stop batch r.0 r.1 c.loop-count.refused c.loop-count.kept.wanting c.loop-count.kept.wanting c.serve_batch.new.kept.wanting (c.loop-count.count + 1) some r.3 refl w4 served number (let below = c.loop-count.invariant.no_fall_out in omega (arith, below, fb)) in
    subst (Ended answers o c.serve_batch.new.kept.wanting) (sym p.1) (subst (λ e. Ended answers o c.serve_batch.new.kept.wanting (Err e)) (sym p.2) s)

pub returns-in_err-came-clause-ends : goal.returns-in_err-came-clause-ends
returns-in_err-came-clause-ends g c =
    let w4 = Adds-same (g.O.Sink.written c.args.out.now) (g.O.Sink.written c.loop-count.out) (g.O.Sink.written c.flush_before_read.new.out) (concat c.loop-count.invariant.read.1) c.loop-count.invariant.read.4 c.in_ok-flush_before_read.ensures.same in
    let left = g.I.Source.left in
    let faults = g.I.Source.faults in
    let written = g.O.Sink.written in
    let answers = g.C.Answers.IsAnswer c.args.command.now in
    let r = c.loop-count.invariant.read in
    let batch = map (λ l. l.items) c.read_batch-read.new.lines.items in
    let old = left c.args.input.now in
    let fault = c.in_err-came.field-0.0 in
    let gathered = subst (Gathered old (left c.read_batch-read.new.input) (faults c.loop-count.input) (faults c.read_batch-read.new.input) c.read_batch-read.new.held (r.0 ++ batch)) c.in_err-came.was (c.read_batch-read.ensures.gathered old r.0 r.2) in
    let n = r.5 in
    let number : c.loop-count.count + 1 ≡ 1 + length r.0 = omega (arith, n) in
    let b = c.in_ok-batch_refused.batch_refused in
    let served = subst (λ l. ServedBatch answers (c.loop-count.count + 1) (map (λ l. l.items) l) (written c.flush_before_read.new.out) (written c.serve_batch.new.out) (g.O.Sink.faults c.flush_before_read.new.out) (g.O.Sink.faults c.serve_batch.new.out) c.loop-count.kept.wanting c.serve_batch.new.kept.wanting (Ok b)) c.deref.ensures.value c.in_ok-batch_refused.ensures.outcome in
    let w = c.serve_batch.new.kept.wanting in
    let report = subst (AreTold answers 1 (r.0 ++ batch) (r.1 ++ served.0) (c.loop-count.refused || b)) (sym served.3) (AreTold-append answers 1 r.0 r.1 c.loop-count.refused c.loop-count.kept.wanting (c.loop-count.count + 1) batch served.0 b served.1 r.3 number served.2) in
    let adds = subst (Adds (written c.args.out.now) (written c.serve_batch.new.out)) (sym (concat-append r.1 served.0)) (Adds-more (written c.args.out.now) (written c.flush_before_read.new.out) (written c.serve_batch.new.out) (concat r.1) (concat served.0) w4 served.4) in
    let p = err_from_is_err_and c.from_residual-in_err-came.result c.from_residual-in_err-came.ensures.1 in
    let o : Streams = streams left faults written g.O.Sink.flushed g.O.Sink.faults c.args.input.now c.read_batch-read.new.input c.args.out.now c.serve_batch.new.out in
    let s = at-read ℕ (Told answers w) o (faults c.loop-count.input) c.read_batch-read.new.held fault (r.0 ++ batch) (r.1 ++ served.0) (c.loop-count.refused || b) gathered report adds c.loop-count.invariant.no_fall_in in
    subst (Ended answers o w) (sym (p.1 ∙ ap Err p.2)) (stopped answers o w (stop_of fault) s)

pub returns-in_err-flush-clause-ends : goal.returns-in_err-flush-clause-ends
returns-in_err-flush-clause-ends g c =
    let w4 = Adds-same (g.O.Sink.written c.args.out.now) (g.O.Sink.written c.loop-count.out) (g.O.Sink.written c.flush_before_read.new.out) (concat c.loop-count.invariant.read.1) c.loop-count.invariant.read.4 c.in_ok-flush_before_read.ensures.same in
    let fb = c.in_ok-flush_before_read.ensures.no_fall in
    let fs = c.in_ok-batch_refused.ensures.no_fall in
    let left = g.I.Source.left in
    let faults = g.I.Source.faults in
    let written = g.O.Sink.written in
    let answers = g.C.Answers.IsAnswer c.args.command.now in
    let r = c.loop-count.invariant.read in
    let batch = map (λ l. l.items) c.read_batch-read.new.lines.items in
    let old = left c.args.input.now in
    let gathered = subst (Gathered old (left c.read_batch-read.new.input) (faults c.loop-count.input) (faults c.read_batch-read.new.input) c.read_batch-read.new.held (r.0 ++ batch)) c.in_ok-came.was (c.read_batch-read.ensures.gathered old r.0 r.2) in
    let none : c.in_ok-came.came ≡ 0 = omega arith in
    let ended = c.read_batch-read.ensures.end (c.in_ok-came.was ∙ ap Ok none) in
    let all = subst (λ e. ReadsSoFar old (left c.read_batch-read.new.input) c.read_batch-read.new.held.bytes e (r.0 ++ batch)) ended gathered in
    let n = r.5 in
    let number : c.loop-count.count + 1 ≡ 1 + length r.0 = omega (arith, n) in
    let b = c.in_ok-batch_refused.batch_refused in
    let served = subst (λ l. ServedBatch answers (c.loop-count.count + 1) (map (λ l. l.items) l) (written c.flush_before_read.new.out) (written c.serve_batch.new.out) (g.O.Sink.faults c.flush_before_read.new.out) (g.O.Sink.faults c.serve_batch.new.out) c.loop-count.kept.wanting c.serve_batch.new.kept.wanting (Ok b)) c.deref.ensures.value c.in_ok-batch_refused.ensures.outcome in
    let w = c.serve_batch.new.kept.wanting in
    let report = subst (AreTold answers 1 (r.0 ++ batch) (r.1 ++ served.0) (c.loop-count.refused || b)) (sym served.3) (AreTold-append answers 1 r.0 r.1 c.loop-count.refused c.loop-count.kept.wanting (c.loop-count.count + 1) batch served.0 b served.1 r.3 number served.2) in
    let adds = subst (Adds (written c.args.out.now) (written c.serve_batch.new.out)) (sym (concat-append r.1 served.0)) (Adds-more (written c.args.out.now) (written c.flush_before_read.new.out) (written c.serve_batch.new.out) (concat r.1) (concat served.0) w4 served.4) in
    let p = err_from_is_err_and c.from_residual-in_err-flush.result c.from_residual-in_err-flush.ensures.1 in
    let o : Streams = streams left faults written g.O.Sink.flushed g.O.Sink.faults c.args.input.now c.read_batch-read.new.input c.args.out.now c.flush.new.self in
    let risen = c.in_err-flush.ensures.failed in
    let below = c.loop-count.invariant.no_fall_out in
    let s : Ends (Told answers w) o (Err Write) = (at-nothing (Told answers w) o (written c.serve_batch.new.out) [] (r.0 ++ batch) (r.1 ++ served.0) (c.loop-count.refused || b) (inr all) report adds c.in_err-flush.ensures.same, omega (arith, risen, below, fb, fs)) in
    subst (Ended answers o w) (sym (p.1 ∙ ap Err p.2)) (stopped answers o w Write s)

pub returns-then-came-eq0-clause-ends : goal.returns-then-came-eq0-clause-ends
returns-then-came-eq0-clause-ends g c =
    let w4 = Adds-same (g.O.Sink.written c.args.out.now) (g.O.Sink.written c.loop-count.out) (g.O.Sink.written c.flush_before_read.new.out) (concat c.loop-count.invariant.read.1) c.loop-count.invariant.read.4 c.in_ok-flush_before_read.ensures.same in
    let left = g.I.Source.left in
    let faults = g.I.Source.faults in
    let written = g.O.Sink.written in
    let answers = g.C.Answers.IsAnswer c.args.command.now in
    let r = c.loop-count.invariant.read in
    let batch = map (λ l. l.items) c.read_batch-read.new.lines.items in
    let old = left c.args.input.now in
    let gathered = subst (Gathered old (left c.read_batch-read.new.input) (faults c.loop-count.input) (faults c.read_batch-read.new.input) c.read_batch-read.new.held (r.0 ++ batch)) c.in_ok-came.was (c.read_batch-read.ensures.gathered old r.0 r.2) in
    let none : c.in_ok-came.came ≡ 0 = omega arith in
    let ended = c.read_batch-read.ensures.end (c.in_ok-came.was ∙ ap Ok none) in
    let all = subst (λ e. ReadsSoFar old (left c.read_batch-read.new.input) c.read_batch-read.new.held.bytes e (r.0 ++ batch)) ended gathered in
    let n = r.5 in
    let number : c.loop-count.count + 1 ≡ 1 + length r.0 = omega (arith, n) in
    let b = c.in_ok-batch_refused.batch_refused in
    let served = subst (λ l. ServedBatch answers (c.loop-count.count + 1) (map (λ l. l.items) l) (written c.flush_before_read.new.out) (written c.serve_batch.new.out) (g.O.Sink.faults c.flush_before_read.new.out) (g.O.Sink.faults c.serve_batch.new.out) c.loop-count.kept.wanting c.serve_batch.new.kept.wanting (Ok b)) c.deref.ensures.value c.in_ok-batch_refused.ensures.outcome in
    let w = c.serve_batch.new.kept.wanting in
    let report = subst (AreTold answers 1 (r.0 ++ batch) (r.1 ++ served.0) (c.loop-count.refused || b)) (sym served.3) (AreTold-append answers 1 r.0 r.1 c.loop-count.refused c.loop-count.kept.wanting (c.loop-count.count + 1) batch served.0 b served.1 r.3 number served.2) in
    let adds = subst (Adds (written c.args.out.now) (written c.serve_batch.new.out)) (sym (concat-append r.1 served.0)) (Adds-more (written c.args.out.now) (written c.flush_before_read.new.out) (written c.serve_batch.new.out) (concat r.1) (concat served.0) w4 served.4) in
    let either : c.if-refused.refused ≡ (c.loop-count.refused || b) = elim c.if-refused.branch [
      | then-refused w ↦ w.refused-is ∙ w.if-refused.true ∙ sym (ap (λ a. a || b) w.if-refused.true)
      | else-refused w ↦ w.refused-is ∙ sym (ap (λ a. a || b) w.if-refused.false)
    ] in
    let count = subst (λ x. IfOk x (λ n. n ≡ length c.read_batch-read.new.lines.items)) c.in_ok-came.was c.read_batch-read.ensures.count in
    let same = length-map c.read_batch-read.new.lines.items (λ l. l.items) in
    let len = length-append r.0 batch in
    let t = c.loop-count-test.true in (
      w,
      refl,
      record {
        lines = r.0 ++ batch;
        pieces = r.1 ++ served.0;
        reads = all;
        report = subst (λ b. AreTold answers 1 (r.0 ++ batch) (r.1 ++ served.0) b w) (sym either) report;
        writes = Adds-same (written c.args.out.now) (written c.serve_batch.new.out) (written c.flush.new.self) (concat (r.1 ++ served.0)) adds c.in_ok-flush.ensures.same;
        flushed = c.in_ok-flush.ensures.ok;
        few = omega (arith, len, same, count, none, n, t);
      },
    )

pub loop-count-preserved : goal.loop-count-preserved
loop-count-preserved g c =
    let w4 = Adds-same (g.O.Sink.written c.args.out.now) (g.O.Sink.written c.loop-count.out) (g.O.Sink.written c.flush_before_read.new.out) (concat c.loop-count.invariant.read.1) c.loop-count.invariant.read.4 c.in_ok-flush_before_read.ensures.same in
    let fb = c.in_ok-flush_before_read.ensures.no_fall in
    let left = g.I.Source.left in
    let faults = g.I.Source.faults in
    let written = g.O.Sink.written in
    let answers = g.C.Answers.IsAnswer c.args.command.now in
    let r = c.loop-count.invariant.read in
    let batch = map (λ l. l.items) c.read_batch-read.new.lines.items in
    let old = left c.args.input.now in
    let gathered = subst (Gathered old (left c.read_batch-read.new.input) (faults c.loop-count.input) (faults c.read_batch-read.new.input) c.read_batch-read.new.held (r.0 ++ batch)) c.in_ok-came.was (c.read_batch-read.ensures.gathered old r.0 r.2) in
    let n = r.5 in
    let number : c.loop-count.count + 1 ≡ 1 + length r.0 = omega (arith, n) in
    let b = c.in_ok-batch_refused.batch_refused in
    let served = subst (λ l. ServedBatch answers (c.loop-count.count + 1) (map (λ l. l.items) l) (written c.flush_before_read.new.out) (written c.serve_batch.new.out) (g.O.Sink.faults c.flush_before_read.new.out) (g.O.Sink.faults c.serve_batch.new.out) c.loop-count.kept.wanting c.serve_batch.new.kept.wanting (Ok b)) c.deref.ensures.value c.in_ok-batch_refused.ensures.outcome in
    let w = c.serve_batch.new.kept.wanting in
    let report = subst (AreTold answers 1 (r.0 ++ batch) (r.1 ++ served.0) (c.loop-count.refused || b)) (sym served.3) (AreTold-append answers 1 r.0 r.1 c.loop-count.refused c.loop-count.kept.wanting (c.loop-count.count + 1) batch served.0 b served.1 r.3 number served.2) in
    let adds = subst (Adds (written c.args.out.now) (written c.serve_batch.new.out)) (sym (concat-append r.1 served.0)) (Adds-more (written c.args.out.now) (written c.flush_before_read.new.out) (written c.serve_batch.new.out) (concat r.1) (concat served.0) w4 served.4) in
    let either : c.if-refused.refused ≡ (c.loop-count.refused || b) = elim c.if-refused.branch [
      | then-refused w ↦ w.refused-is ∙ w.if-refused.true ∙ sym (ap (λ a. a || b) w.if-refused.true)
      | else-refused w ↦ w.refused-is ∙ sym (ap (λ a. a || b) w.if-refused.false)
    ] in
    let count = subst (λ x. IfOk x (λ n. n ≡ length c.read_batch-read.new.lines.items)) c.in_ok-came.was c.read_batch-read.ensures.count in
    let same = length-map c.read_batch-read.new.lines.items (λ l. l.items) in
    let len = length-append r.0 batch in
    let ni = c.loop-count.invariant.no_fall_in in
    let no = c.loop-count.invariant.no_fall_out in
    let mi = c.read_batch-read.ensures.no_fall in
    let mo = c.in_ok-batch_refused.ensures.no_fall in
    record {
      read = (
        r.0 ++ batch,
        r.1 ++ served.0,
        gathered,
        subst (λ b. AreTold answers 1 (r.0 ++ batch) (r.1 ++ served.0) b w) (sym either) report,
        adds,
        omega (arith, len, same, count, n),
      );
      no_fall_in = omega (arith, ni, mi);
      no_fall_out = omega (arith, no, mo, fb);
    }

pub returns-clause-ends : goal.returns-clause-ends
returns-clause-ends g c =
    let r = c.loop-count.invariant.read in
    let held = c.loop-count.held in
    let t = c.loop-count-test.false in
    let n = r.5 in
    (c.loop-count.kept.wanting, refl, record { lines = r.0; part = held.bytes; pieces = r.1; refused = c.loop-count.refused; reads = so_far-either (g.I.Source.left c.args.input.now) (g.I.Source.left c.loop-count.input) held.bytes held.ended r.0 r.2; report = r.3; writes = r.4; many = omega (arith, t, n) })
