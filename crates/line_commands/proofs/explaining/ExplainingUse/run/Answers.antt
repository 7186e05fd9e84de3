use Rattle.std.proofs.Common.{refl}
use Rattle.type_hierarchy.specs.Decls.{texts}
use Rattle.endings.specs.Reports.{AreAnswers, no_line, OrNoMemory, Streams, streams}
use Rattle.endings.proofs.Exits.{none-served}
use Rattle.engine.specs.Views.{speech_of}
use Rattle.line_commands.specs.Explaining.{IsExplainLine}
use Rattle.line_commands.proofs.explaining.ExplainingUse.run.Goals as goal

pub returns-in_default : goal.returns-in_default
returns-in_default g c =
    let e = c.args.engine.now in
    let book = e.grammar.now.book in
    let o : Streams = streams g.I.Source.left g.I.Source.faults g.O.Sink.written g.O.Sink.flushed g.O.Sink.faults c.args.a.now c.args.a.now c.args.b.now c.flush_at_stop.new.out in
    let answers = IsExplainLine book.system.types (texts book.feats.items) (speech_of e) c.args.self.now.mrs in
    none-served (AreAnswers answers 1) (AreAnswers (OrNoMemory answers) 1) o refl c.flush_at_stop.ensures.same (no_line 1) c.flush_at_stop.ensures.flushed

pub returns-in_default-new : goal.returns-in_default-new
returns-in_default-new g c =
    let e = c.args.engine.now in
    let book = e.grammar.now.book in
    let o : Streams = streams g.I.Source.left g.I.Source.faults g.O.Sink.written g.O.Sink.flushed g.O.Sink.faults c.args.a.now c.args.a.now c.args.b.now c.flush_at_stop-in_default-new.new.out in
    let answers = IsExplainLine book.system.types (texts book.feats.items) (speech_of e) c.args.self.now.mrs in
    none-served (AreAnswers answers 1) (AreAnswers (OrNoMemory answers) 1) o refl c.flush_at_stop-in_default-new.ensures.same (no_line 1) c.flush_at_stop-in_default-new.ensures.flushed
