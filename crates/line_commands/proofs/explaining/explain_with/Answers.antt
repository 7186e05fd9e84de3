use Rattle.std.proofs.Common.{◌≡◌, option_map, subst}
use Rattle.type_hierarchy.specs.Decls.{texts}
use Rattle.endings.specs.Reports.{AreAnswers, OrNoMemory, Served, streams}
use Rattle.grammar_load.specs.Loaded.{GrammarTree}
use Rattle.grammar_load.specs.Views.{grammar_of}
use Rattle.engine.specs.Speeches.{Speech}
use Rattle.line_commands.specs.Explaining.{IsExplainLine}
use Rattle.line_commands.proofs.Serving.{served-ended, served-stopped}
use Rattle.line_commands.proofs.explaining.explain_with.Goals as goal

pub returns-in-Ok-Ok : goal.returns-in-Ok-Ok
returns-in-Ok-Ok g c = λ h has.
    let command = c.args.command.now in
    let by = λ (t : GrammarTree) (s : Speech). IsExplainLine t.book.system.types (texts t.book.feats.items) s command.mrs in
    let tree = grammar_of c.args.grammar.now in
    let input = c.with_engine.new.a in
    let out = c.with_engine.new.b in
    let o = streams g.I.Source.left g.I.Source.faults g.O.Sink.written g.O.Sink.flushed g.O.Sink.faults c.args.input.now input c.args.out.now out in
    let idle = input ≡ c.args.input.now in
    let untouched = (input ≡ c.args.input.now) × (out ≡ c.args.out.now) in
    let given = c.in-Ok-Ok.ensures.given in
    served-ended by command.grammar.now (option_map (λ s. s.now) command.settings) command.verbose h tree has o idle untouched given.0 given.1 c.in-Ok-Ok.refused
    (subst (Served (AreAnswers (by tree given.0) 1) (AreAnswers (OrNoMemory (by tree given.0)) 1) o) c.in-Ok-Ok.field-0-is given.2)

pub returns-in-Ok-Err : goal.returns-in-Ok-Err
returns-in-Ok-Err g c = λ h has.
    let command = c.args.command.now in
    let by = λ (t : GrammarTree) (s : Speech). IsExplainLine t.book.system.types (texts t.book.feats.items) s command.mrs in
    let tree = grammar_of c.args.grammar.now in
    let input = c.with_engine.new.a in
    let out = c.with_engine.new.b in
    let o = streams g.I.Source.left g.I.Source.faults g.O.Sink.written g.O.Sink.flushed g.O.Sink.faults c.args.input.now input c.args.out.now out in
    let idle = input ≡ c.args.input.now in
    let untouched = (input ≡ c.args.input.now) × (out ≡ c.args.out.now) in
    let given = c.in-Ok-Err.ensures.given in
    served-stopped by command.grammar.now (option_map (λ s. s.now) command.settings) command.verbose h tree has o idle untouched given.0 given.1 c.in-Ok-Err.stop
    (subst (Served (AreAnswers (by tree given.0) 1) (AreAnswers (OrNoMemory (by tree given.0)) 1) o) c.in-Ok-Err.field-0-is given.2)
