use Rattle.std.proofs.Common.{sym, refl, subst, Ok}
use Rattle.endings.specs.Reports.{AreAnswers, no_line, OrNoMemory, Streams, streams, Served}
use Rattle.endings.proofs.Exits.{none-served}
use Rattle.endings.proofs.Served.{served-with, whole, stopped-later}
use Rattle.endings.proofs.in_turn.serve_in_turn.Goals as goal

pub returns-in_default : goal.returns-in_default
returns-in_default g c =
    let answers = g.C.Answers.IsAnswer c.args.command.now in
    let o : Streams = streams g.I.Source.left g.I.Source.faults g.O.Sink.written g.O.Sink.flushed g.O.Sink.faults c.args.input.now c.args.input.now c.args.out.now c.flush_at_stop.new.out in
    none-served (AreAnswers answers 1) (AreAnswers (OrNoMemory answers) 1) o refl c.flush_at_stop.ensures.same (no_line 1) c.flush_at_stop.ensures.flushed

pub returns-in-Ok-end : goal.returns-in-Ok-end
returns-in-Ok-end g c =
    let answers = g.C.Answers.IsAnswer c.args.command.now in
    let o : Streams = streams g.I.Source.left g.I.Source.faults g.O.Sink.written g.O.Sink.flushed g.O.Sink.faults c.args.input.now c.serve_lines-end.new.input c.args.out.now c.serve_lines-end.new.out in
    let e = c.in-Ok-end.ensures.ends in
    subst (Served (AreAnswers answers 1) (AreAnswers (OrNoMemory answers) 1) o) (sym c.ended.ensures) (whole answers o c.serve_lines-end.new.kept.wanting c.in-Ok-end.refused (served-with answers o e.0 c.serve_lines-end.new.kept.wanting (Ok c.in-Ok-end.refused) e.1 e.2))

pub returns : goal.returns
returns g c =
    let answers = g.C.Answers.IsAnswer c.args.command.now in
    let o : Streams = streams g.I.Source.left g.I.Source.faults g.O.Sink.written g.O.Sink.flushed g.O.Sink.faults c.args.input.now c.serve_lines-end.new.input c.args.out.now c.serve_lines-end.new.out in
    let last : Streams = streams g.I.Source.left g.I.Source.faults g.O.Sink.written g.O.Sink.flushed g.O.Sink.faults c.args.input.now c.serve_lines-end.new.input c.args.out.now c.flush_at_stop-in-Err.new.out in
    let e = c.in-Err.ensures.ends in
    subst (Served (AreAnswers answers 1) (AreAnswers (OrNoMemory answers) 1) last) (sym c.ended-in-Err.ensures)
    (stopped-later answers o e.0 c.serve_lines-end.new.kept.wanting c.in-Err.stop (g.O.Sink.written c.flush_at_stop-in-Err.new.out) (g.O.Sink.flushed c.flush_at_stop-in-Err.new.out) (g.O.Sink.faults c.flush_at_stop-in-Err.new.out)
    c.flush_at_stop-in-Err.ensures.same c.flush_at_stop-in-Err.ensures.no_fall c.serve_lines-end.ensures.no_fall c.flush_at_stop-in-Err.ensures.flushed e.1 e.2)
