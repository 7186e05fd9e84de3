use Rattle.std.proofs.Common.{List, map, string_bytes, ap}
use Rattle.std.specs.Prelude.{String}
use Rattle.std.specs.Global.{Global}
use Rattle.book_signs.specs.Trees.{SignTree, signs_of}
use Rattle.grammar_load.specs.Views.{grammar_of}
use Rattle.grammar_rules.specs.Views.{item_answer}
use Rattle.mrs_places.specs.Paths.{Paths, paths_of}
use Rattle.mrs_lines.specs.Lines.{AreAnswerLines}
use Rattle.mrs_lines.specs.Remembered.{semantics_in}
use Rattle.engine.specs.Named.{AreFull}
use Rattle.engine.specs.Semantic.{ArePathsOf}
use Rattle.engine.specs.Views.{speech_of}
use Rattle.engine.proofs.Results.{if-ok}
use Rattle.engine.proofs.Semantics.{paths-fit}
use Rattle.line_commands.specs.Answers.{AreLinesOf}
use Rattle.line_commands.proofs.Lines.{mrs-lines}
use Rattle.line_commands.proofs.Shared.{same-signs, shared-by, answer-lines}
use Rattle.line_commands.proofs.answering.Parser.reported.Goals as goal

pub report_with_mrs-requires-clause-same : goal.report_with_mrs-requires-clause-same
report_with_mrs-requires-clause-same c = same-signs c.args.self.now.engine c.args.self.now.lines c.fulls-fulls.result c.args.self.now.written c.fulls-fulls.ensures

pub report_with_mrs-requires-clause-full : goal.report_with_mrs-requires-clause-full
report_with_mrs-requires-clause-full c =
    shared-by c.args.self.now.engine c.args.self.now.lines c.fulls-fulls.result c.args.self.now.written c.fulls-fulls.ensures
    (λ (t : SignTree) (p : Paths). AreFull (signs_of t) (item_answer c.args.answer.now)) c.requires.full

pub report_with_mrs-requires-clause-paths : goal.report_with_mrs-requires-clause-paths
report_with_mrs-requires-clause-paths c =
    let e = c.args.self.now.engine in
    shared-by e c.args.self.now.lines c.fulls-fulls.result c.args.self.now.written c.fulls-fulls.ensures ArePathsOf
    (paths-fit e.signs.now (grammar_of e.grammar.now) (paths_of e.paths.now) c.requires.ready.book c.requires.ready.paths c.requires.ready.fits)

pub returns-clause-lines : goal.returns-clause-lines
returns-clause-lines c =
    let p = c.args.self.now in
    let s = speech_of p.engine in
    let a = item_answer c.args.answer.now in
    let names = map string_bytes c.deref-names.result.now in
    if-ok c.report_with_mrs.result
    (λ r. AreAnswerLines (signs_of c.fulls-fulls.result) (semantics_in p.lines) names p.lattice c.args.number a (map (λ l. l.items) r.lines.items))
    (λ r. AreLinesOf p.mrs s p.lattice c.args.number a (map (λ l. l.items) r.lines.items))
    (λ r h. mrs-lines s p.lattice c.args.number a p.mrs c.if-not-self.false names (ap (λ (ns : List (String Global)). map string_bytes ns) c.deref-names.ensures.value) (map (λ l. l.items) r.lines.items)
    (answer-lines p.engine p.lines c.fulls-fulls.result p.written c.fulls-fulls.ensures names p.lattice c.args.number a (map (λ l. l.items) r.lines.items) h))
    c.report_with_mrs.ensures.lines
