use Rattle.std.proofs.Common.{◌∙◌, IfOk, List, length, map, string_bytes, ap, subst}
use Rattle.std.specs.Prelude.{String}
use Rattle.std.specs.Global.{Global}
use Rattle.book_signs.specs.Trees.{signs_of}
use Rattle.packed_items.specs.Answers.{limits_in}
use Rattle.lexical_items.specs.Seen.{lattice_seen}
use Rattle.morph_analysis.specs.LatticeViews.{lattice_of}
use Rattle.line_charts.specs.declared.ChartAnswer.{ChartAnswer}
use Rattle.line_charts.specs.Answers.{IsChartAnswer}
use Rattle.line_charts.specs.Views.{chart_answer}
use Rattle.engine.specs.Views.{speech_of}
use Rattle.line_commands.proofs.Forests.{forest-here, named-here}
use Rattle.line_commands.proofs.charter.Charter.answer_to.Goals as goal

pub line_chart-requires-clause-grammar : goal.line_chart-requires-clause-grammar
line_chart-requires-clause-grammar c = record {
  shapes = c.requires.ready.shapes;
  feats = ap (λ (fs : List (String Global)). length fs) c.deref.ensures.value ∙ c.laws.ensures.feats;
}

pub line_chart-requires-clause-leaves : goal.line_chart-requires-clause-leaves
line_chart-requires-clause-leaves c = ((speech_of c.args.self.now.engine).words, c.in_ok-leaves.ensures)

pub returns-in-Ok-clause-answer : goal.returns-in-Ok-clause-answer
returns-in-Ok-clause-answer c =
    let p = c.args.self.now in
    let e = p.engine in
    let words = (speech_of e).words in
    let lattice = lattice_seen (lattice_of c.args.lattice.now) in
    let of = λ (a : ChartAnswer). IsChartAnswer (signs_of e.signs.now) e.signs.now.book.system.types (map string_bytes c.deref.result.now) words lattice p.limits.lexical (limits_in p.limits) (chart_answer a) in
    let answer = subst (λ r. IfOk r of) c.in-Ok.is (c.line_chart.ensures.answer words c.in_ok-leaves.ensures) in
    forest-here e c.requires.ready words lattice p.limits.lexical (limits_in p.limits) (chart_answer c.in-Ok.answer) c.deref.result.now c.deref.ensures.value answer

pub returns-in-Ok-clause-named : goal.returns-in-Ok-clause-named
returns-in-Ok-clause-named c = named-here c.args.self.now.engine c.requires.ready c.laws.ensures.names (chart_answer c.in-Ok.answer) c.in-Ok.ensures.named
