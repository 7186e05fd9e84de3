use Rattle.endings.proofs.NoteLemmas.{muted, told-whole, told-in-part}
use Rattle.endings.proofs.noting.put_text.Goals as goal

pub returns-then-failed : goal.returns-then-failed
returns-then-failed g c = λ start faults before told. muted c.args.failed.now c.if-failed.true start (g.X.Sink.written c.args.err.now) faults (g.X.Sink.faults c.args.err.now) before c.args.text.now told

pub returns-in-Ok : goal.returns-in-Ok
returns-in-Ok g c = λ start faults before told. told-whole c.args.failed.now c.if-failed.false start (g.X.Sink.written c.args.err.now) (g.X.Sink.written c.put_all.new.sink) faults (g.X.Sink.faults c.args.err.now) (g.X.Sink.faults c.put_all.new.sink) before c.args.text.now told c.in-Ok.ensures.ok c.in-Ok.ensures.no_fall

pub returns-in-Err : goal.returns-in-Err
returns-in-Err g c = λ start faults before told. told-in-part c.args.failed.now c.if-failed.false start (g.X.Sink.written c.args.err.now) (g.X.Sink.written c.put_all.new.sink) faults (g.X.Sink.faults c.args.err.now) (g.X.Sink.faults c.put_all.new.sink) before c.args.text.now told c.in-Err.ensures.front c.in-Err.ensures.no_fall c.in-Err.ensures.failed
