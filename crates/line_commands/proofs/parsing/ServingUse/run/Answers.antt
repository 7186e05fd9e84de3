use Rattle.std.proofs.Common.{[], refl}
use Rattle.endings.specs.Reports.{AreAnswers, no_line, OrNoMemory, Streams, streams}
use Rattle.endings.specs.Notes.{no_line_noted}
use Rattle.endings.proofs.Exits.{none-served, reads-none}
use Rattle.endings.proofs.NotedClauses.{tells-nothing}
use Rattle.engine.specs.Views.{speech_of}
use Rattle.line_commands.specs.Answers.{IsAnswer}
use Rattle.line_commands.specs.Views.{asked_with}
use Rattle.line_commands.proofs.parsing.ServingUse.run.Goals as goal

pub returns-in_default : goal.returns-in_default
returns-in_default g c =
    let job = c.args.self.now in
    let o : Streams = streams g.I.Source.left g.I.Source.faults g.O.Sink.written g.O.Sink.flushed g.O.Sink.faults c.args.a.now c.args.a.now c.args.b.now c.flush_at_stop.new.out in
    let answers = IsAnswer (speech_of c.args.engine.now) (asked_with job.limits job.lattice job.mrs) in
    let served = none-served (AreAnswers answers 1) (AreAnswers (OrNoMemory answers) 1) o refl c.flush_at_stop.ensures.same (no_line 1) c.flush_at_stop.ensures.flushed in
    (served, ([], ([], [], reads-none (g.I.Source.left c.args.a.now), no_line_noted 1), tells-nothing (g.X.Sink.written c.args.c.now) (g.X.Sink.faults c.args.c.now)))
