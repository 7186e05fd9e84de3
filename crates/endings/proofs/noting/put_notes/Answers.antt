use Rattle.std.proofs.Common.{◌≡◌, ◌∙◌, ◌++◌, ◌+◌, sym, ap, subst, take, map, append_assoc, append-nil, add-one, arith}
use Rattle.std.specs.List.{concat}
use Rattle.endings.specs.Inner.Batches.{IsNotedSoFar, note_of}
use Rattle.endings.proofs.Batching.{take-whole}
use Rattle.endings.proofs.PieceLemmas.{concat-more}
use Rattle.endings.proofs.noting.put_notes.Goals as goal

pub loop-answer-init : goal.loop-answer-init
loop-answer-init g c = λ start faults before told. subst (IsNotedSoFar c.args.failed.now start (g.X.Sink.written c.args.err.now) faults (g.X.Sink.faults c.args.err.now)) (sym (append-nil before)) told

pub loop-answer-preserved : goal.loop-answer-preserved
loop-answer-preserved g c = λ start faults before told. (
    let i = c.loop-answer.answer-index in
    let done = concat (take i (map note_of c.args.told.now)) in
    let own = note_of c.answer-item.result in
    let more = c.put_note.ensures start faults (before ++ done) (c.loop-answer.invariant start faults before told) in
    let e : before ++ concat (take (i + 1) (map note_of c.args.told.now)) ≡ (before ++ done) ++ own =
    rw (add-one i) (ap (λ t. before ++ t) (concat-more note_of c.args.told.now i c.answer-item.result (omega arith) (sym c.answer-item.is)) ∙ sym (append_assoc before done own)) in
    subst (IsNotedSoFar c.put_note.new.failed start (g.X.Sink.written c.put_note.new.err) faults (g.X.Sink.faults c.put_note.new.err)) (sym e) more)

pub returns : goal.returns
returns g c = λ start faults before told. (
    let e = take-whole note_of c.args.told.now c.loop-answer.answer-index (omega arith) in
    subst (λ t. IsNotedSoFar c.loop-answer.failed start (g.X.Sink.written c.loop-answer.err) faults (g.X.Sink.faults c.loop-answer.err) (before ++ concat t)) e (c.loop-answer.invariant start faults before told))
