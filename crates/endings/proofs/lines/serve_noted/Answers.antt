use Rattle.std.proofs.Common.{sym, refl, subst, [], Ok, Err}
use Rattle.endings.specs.Reports.{AreAnswers, no_line, OrNoMemory, Streams, streams, Served}
use Rattle.endings.specs.Notes.{AreAllNotes, NotesAt, no_line_noted}
use Rattle.endings.proofs.Exits.{none-served, reads-none}
use Rattle.endings.proofs.NoteLemmas.{notes-with, so-far-tells}
use Rattle.endings.proofs.NotedClauses.{tells-nothing}
use Rattle.endings.proofs.Served.{served-with, whole, stopped-later}
use Rattle.endings.proofs.lines.serve_noted.Goals as goal

pub returns-in_default-clause-served : goal.returns-in_default-clause-served
returns-in_default-clause-served g c =
    let answers = g.C.Answers.IsAnswer c.args.command.now in
    let o : Streams = streams g.I.Source.left g.I.Source.faults g.O.Sink.written g.O.Sink.flushed g.O.Sink.faults c.args.input.now c.args.input.now c.args.out.now c.flush_at_stop.new.out in
    none-served (AreAnswers answers 1) (AreAnswers (OrNoMemory answers) 1) o refl c.flush_at_stop.ensures.same (no_line 1) c.flush_at_stop.ensures.flushed

pub returns-in-Ok-end-clause-served : goal.returns-in-Ok-end-clause-served
returns-in-Ok-end-clause-served g c =
    let answers = g.C.Answers.IsAnswer c.args.command.now in
    let o : Streams = streams g.I.Source.left g.I.Source.faults g.O.Sink.written g.O.Sink.flushed g.O.Sink.faults c.args.input.now c.serve_lines-end.new.input c.args.out.now c.serve_lines-end.new.out in
    let e = c.in-Ok-end.ensures.ends in
    subst (Served (AreAnswers answers 1) (AreAnswers (OrNoMemory answers) 1) o) (sym c.ended.ensures) (whole answers o c.serve_lines-end.new.kept.wanting c.in-Ok-end.refused (served-with answers o e.0 c.serve_lines-end.new.kept.wanting (Ok c.in-Ok-end.refused) e.1 e.2))

pub returns-clause-served : goal.returns-clause-served
returns-clause-served g c =
    let answers = g.C.Answers.IsAnswer c.args.command.now in
    let o : Streams = streams g.I.Source.left g.I.Source.faults g.O.Sink.written g.O.Sink.flushed g.O.Sink.faults c.args.input.now c.serve_lines-end.new.input c.args.out.now c.serve_lines-end.new.out in
    let last : Streams = streams g.I.Source.left g.I.Source.faults g.O.Sink.written g.O.Sink.flushed g.O.Sink.faults c.args.input.now c.serve_lines-end.new.input c.args.out.now c.flush_at_stop-in-Err.new.out in
    let e = c.in-Err.ensures.ends in
    subst (Served (AreAnswers answers 1) (AreAnswers (OrNoMemory answers) 1) last) (sym c.ended-in-Err.ensures)
    (stopped-later answers o e.0 c.serve_lines-end.new.kept.wanting c.in-Err.stop (g.O.Sink.written c.flush_at_stop-in-Err.new.out) (g.O.Sink.flushed c.flush_at_stop-in-Err.new.out) (g.O.Sink.faults c.flush_at_stop-in-Err.new.out)
    c.flush_at_stop-in-Err.ensures.same c.flush_at_stop-in-Err.ensures.no_fall c.serve_lines-end.ensures.no_fall c.flush_at_stop-in-Err.ensures.flushed e.1 e.2)

-- ---- the notes

pub returns-in_default-clause-noted : goal.returns-in_default-clause-noted
returns-in_default-clause-noted g c = ([], ([], [], reads-none (g.I.Source.left c.args.input.now), no_line_noted 1), tells-nothing (g.X.Sink.written c.args.err.now) (g.X.Sink.faults c.args.err.now))

pub returns-in-Ok-end-clause-noted : goal.returns-in-Ok-end-clause-noted
returns-in-Ok-end-clause-noted g c =
    let notes = g.C.Answers.IsNote c.args.command.now in
    let old = g.I.Source.left c.args.input.now in
    let new = g.I.Source.left c.serve_lines-end.new.input in
    let n = c.in-Ok-end.ensures.noted in
    (n.0, subst (NotesAt (AreAllNotes notes) old new n.0) (sym c.ended.ensures) (notes-with notes old new n.0 c.serve_lines-end.new.kept.wanting (Ok c.in-Ok-end.refused) n.1), so-far-tells c.serve_lines-end.new.kept.failed _ _ _ _ n.0 n.2)

pub returns-clause-noted : goal.returns-clause-noted
returns-clause-noted g c =
    let notes = g.C.Answers.IsNote c.args.command.now in
    let old = g.I.Source.left c.args.input.now in
    let new = g.I.Source.left c.serve_lines-end.new.input in
    let n = c.in-Err.ensures.noted in
    (n.0, subst (NotesAt (AreAllNotes notes) old new n.0) (sym c.ended-in-Err.ensures) (notes-with notes old new n.0 c.serve_lines-end.new.kept.wanting (Err c.in-Err.stop) n.1), so-far-tells c.serve_lines-end.new.kept.failed _ _ _ _ n.0 n.2)
