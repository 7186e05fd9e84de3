use Rattle.std.proofs.Common.{rules, ◌≡◌, ◌∙◌, List, map, refl, sym, ap, subst}
use Rattle.grammar_load.specs.Views.{grammar_of}
use Rattle.mrs_places.specs.Paths.{Feature, feature_of}
use Rattle.endings.specs.Reports.{AreAnswers, no_line, OrNoMemory, Streams, streams, Served}
use Rattle.engine.specs.Views.{speech_of}
use Rattle.generate_commands.specs.Answers.{IsAnswer}
use Rattle.generate_commands.specs.Generating.{c_cont_of}
use Rattle.generate_commands.specs.Views.{bounds_with}
use Rattle.generate_commands.specs.Contributing.{AreContributorsOf, speaker_by}
use Rattle.endings.proofs.Exits.{none-served}
use Rattle.generate_commands.proofs.using.AllLinesUse.run.Goals as goal

pub serve_in_turn-requires : goal.serve_in_turn-requires
serve_in_turn-requires g c κs =
    let e = c.args.engine.now in (
      search rules,
      record {
        engine = c.requires.ready;
        contributors = subst (λ fs. AreContributorsOf e (map feature_of fs) c.args.self.now.limits.lexical c.in-Ok.given.contributors) (sym c.deref.ensures.value) c.in-Ok.ensures.contributors;
        limits = c.args.self.now.in_range;
      },
    )

pub returns : goal.returns
returns g c =
    let e = c.args.engine.now in
    let bounds = bounds_with c.args.self.now.limits in
    let o : Streams = streams g.I.Source.left g.I.Source.faults g.O.Sink.written g.O.Sink.flushed g.O.Sink.faults c.args.input.now c.serve_in_turn.new.input c.args.out.now c.serve_in_turn.new.out in
    let path : map feature_of c.deref.result.now ≡ c_cont_of (grammar_of e.grammar.now) = ap (map feature_of) c.deref.ensures.value ∙ c.in-Ok.ensures.path in
    let by = λ (fs : List Feature). IsAnswer (record { speech = speech_of e; c_cont_path = fs }) bounds in
    subst (λ fs. Served (AreAnswers (by fs) 1) (AreAnswers (OrNoMemory (by fs)) 1) o c.serve_in_turn.result) path c.serve_in_turn.ensures

pub returns-in_default : goal.returns-in_default
returns-in_default g c =
    let e = c.args.engine.now in
    let o : Streams = streams g.I.Source.left g.I.Source.faults g.O.Sink.written g.O.Sink.flushed g.O.Sink.faults c.args.input.now c.args.input.now c.args.out.now c.flush_at_stop.new.out in
    let answers = IsAnswer (speaker_by (grammar_of e.grammar.now) (speech_of e)) (bounds_with c.args.self.now.limits) in
    none-served (AreAnswers answers 1) (AreAnswers (OrNoMemory answers) 1) o refl c.flush_at_stop.ensures.same (no_line 1) c.flush_at_stop.ensures.flushed
