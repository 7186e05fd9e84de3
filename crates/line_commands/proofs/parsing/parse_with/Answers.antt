use Rattle.std.proofs.Common.{◌≡◌, ◌≤◌, [], inl, refl, option_map, sym, subst}
use Rattle.endings.specs.Reports.{Streams, streams, Output, output}
use Rattle.endings.specs.Endings.{Tells}
use Rattle.endings.proofs.NotedClauses.{tells-nothing}
use Rattle.grammar_load.specs.Views.{grammar_of}
use Rattle.line_commands.specs.Views.{asked_with}
use Rattle.line_commands.specs.Inner.Parsers.{IsParsedBy}
use Rattle.line_commands.proofs.Serving.{parsed-ended, parsed-stopped, parsed-noted, parsed-noted-stop}
use Rattle.line_commands.proofs.parsing.parse_with.Goals as goal

pub returns-in-Ok-Ok-clause-ended : goal.returns-in-Ok-Ok-clause-ended
returns-in-Ok-Ok-clause-ended g c = λ h has.
    let command = c.args.command.now in
    let asked = asked_with command.limits command.lattice command.mrs in
    let input = c.with_engine.new.a in
    let out = c.with_engine.new.b in
    let o : Streams = streams g.I.Source.left g.I.Source.faults g.O.Sink.written g.O.Sink.flushed g.O.Sink.faults c.args.input.now input c.args.out.now out in
    let e : Output = output g.X.Sink.written g.X.Sink.flushed g.X.Sink.faults c.args.err.now c.with_engine.new.c in
    let idle = input ≡ c.args.input.now in
    let untouched = (input ≡ c.args.input.now) × (out ≡ c.args.out.now) in
    let given = c.in-Ok-Ok.ensures.given in
    let both = subst (IsParsedBy given.0 asked command.verbose o e) c.in-Ok-Ok.field-0-is given.2 in
    parsed-ended command.grammar.now (option_map (λ s. s.now) command.settings) command.verbose asked h (grammar_of c.args.grammar.now) has o idle untouched given.0 given.1 c.in-Ok-Ok.refused both.0

pub returns-in-Ok-Ok-clause-noted : goal.returns-in-Ok-Ok-clause-noted
returns-in-Ok-Ok-clause-noted g c = λ h has.
    let command = c.args.command.now in
    let asked = asked_with command.limits command.lattice command.mrs in
    let input = c.with_engine.new.a in
    let out = c.with_engine.new.b in
    let o : Streams = streams g.I.Source.left g.I.Source.faults g.O.Sink.written g.O.Sink.flushed g.O.Sink.faults c.args.input.now input c.args.out.now out in
    let e : Output = output g.X.Sink.written g.X.Sink.flushed g.X.Sink.faults c.args.err.now c.with_engine.new.c in
    let idle = input ≡ c.args.input.now in
    let untouched = (input ≡ c.args.input.now) × (out ≡ c.args.out.now) in
    let given = c.in-Ok-Ok.ensures.given in
    let both = subst (IsParsedBy given.0 asked command.verbose o e) c.in-Ok-Ok.field-0-is given.2 in
    parsed-noted command.grammar.now (option_map (λ s. s.now) command.settings) command.verbose asked h (grammar_of c.args.grammar.now) has o idle untouched given.0 given.1 e c.in-Ok-Ok.refused both.1

pub returns-in-Ok-Err-clause-ended : goal.returns-in-Ok-Err-clause-ended
returns-in-Ok-Err-clause-ended g c = λ h has.
    let command = c.args.command.now in
    let asked = asked_with command.limits command.lattice command.mrs in
    let input = c.with_engine.new.a in
    let out = c.with_engine.new.b in
    let o : Streams = streams g.I.Source.left g.I.Source.faults g.O.Sink.written g.O.Sink.flushed g.O.Sink.faults c.args.input.now input c.args.out.now out in
    let e : Output = output g.X.Sink.written g.X.Sink.flushed g.X.Sink.faults c.args.err.now c.with_engine.new.c in
    let idle = input ≡ c.args.input.now in
    let untouched = (input ≡ c.args.input.now) × (out ≡ c.args.out.now) in
    let given = c.in-Ok-Err.ensures.given in
    let both = subst (IsParsedBy given.0 asked command.verbose o e) c.in-Ok-Err.field-0-is given.2 in
    parsed-stopped command.grammar.now (option_map (λ s. s.now) command.settings) command.verbose asked h (grammar_of c.args.grammar.now) has o idle untouched given.0 given.1 c.in-Ok-Err.stop both.0

pub returns-in-Ok-Err-clause-noted : goal.returns-in-Ok-Err-clause-noted
returns-in-Ok-Err-clause-noted g c = λ h has.
    let command = c.args.command.now in
    let asked = asked_with command.limits command.lattice command.mrs in
    let input = c.with_engine.new.a in
    let out = c.with_engine.new.b in
    let o : Streams = streams g.I.Source.left g.I.Source.faults g.O.Sink.written g.O.Sink.flushed g.O.Sink.faults c.args.input.now input c.args.out.now out in
    let e : Output = output g.X.Sink.written g.X.Sink.flushed g.X.Sink.faults c.args.err.now c.with_engine.new.c in
    let idle = input ≡ c.args.input.now in
    let untouched = (input ≡ c.args.input.now) × (out ≡ c.args.out.now) in
    let given = c.in-Ok-Err.ensures.given in
    let both = subst (IsParsedBy given.0 asked command.verbose o e) c.in-Ok-Err.field-0-is given.2 in
    parsed-noted-stop command.grammar.now (option_map (λ s. s.now) command.settings) command.verbose asked h (grammar_of c.args.grammar.now) has o idle untouched given.0 given.1 e c.in-Ok-Err.stop both.1

pub returns-in-Err-clause-noted : goal.returns-in-Err-clause-noted
returns-in-Err-clause-noted g c = λ h has.
    let old = c.args.err.now in
    let w = g.X.Sink.written in
    let f = g.X.Sink.faults in
    ([], inl refl, subst (λ e. (f old ≤ f e) × Tells (w old) (w e) (f old) (f e) []) (sym c.in-Err.ensures.none.2) (tells-nothing (w old) (f old)))
