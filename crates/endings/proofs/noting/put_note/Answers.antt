use Rattle.std.proofs.Common.{◌++◌, ◌∙◌, sym, ap, subst, append-nil}
use Rattle.endings.specs.Inner.Batches.{IsNotedSoFar, note_of}
use Rattle.endings.proofs.noting.put_note.Goals as goal

pub returns-in-Some : goal.returns-in-Some
returns-in-Some g c = λ start faults before told. subst (λ t. IsNotedSoFar c.put_text.new.failed start (g.X.Sink.written c.put_text.new.err) faults (g.X.Sink.faults c.put_text.new.err) (before ++ t)) (c.deref.ensures.value ∙ sym (ap note_of c.in-Some.is)) (c.put_text.ensures start faults before told)

pub returns-in-None : goal.returns-in-None
returns-in-None g c = λ start faults before told. subst (λ t. IsNotedSoFar c.args.failed.now start (g.X.Sink.written c.args.err.now) faults (g.X.Sink.faults c.args.err.now) (before ++ t)) (sym (ap note_of c.in-None.is)) (subst (IsNotedSoFar c.args.failed.now start (g.X.Sink.written c.args.err.now) faults (g.X.Sink.faults c.args.err.now)) (sym (append-nil before)) told)
