use Rattle.std.proofs.Common.{◌≡◌, map}
use Rattle.morph_analysis.specs.LatticeViews.{lattice_of}
use Rattle.line_charts.specs.Texts.{chart_lines, is_refused}
use Rattle.line_charts.specs.Views.{chart_answer}
use Rattle.engine.specs.Views.{speech_of}
use Rattle.engine.proofs.Results.{if-both}
use Rattle.line_commands.specs.Inner.Charters.{types_in, IsReportOf}
use Rattle.line_commands.proofs.charter.Charter.charted.Goals as goal

pub returns : goal.returns
returns c =
    let p = c.args.self.now in
    let a = chart_answer c.in_ok-answer.answer in
    if-both c.reported.result
    (λ r. map (λ l. l.items) r.lines.items ≡ chart_lines (types_in p.engine) (speech_of p.engine).names p.lattice c.args.number a)
    (λ r. r.refused ≡ is_refused a)
    (λ r. IsReportOf p c.args.number (lattice_of c.args.lattice.now) (map (λ l. l.items) r.lines.items) r.refused)
    (λ r e f. record { answer = a; is = c.in_ok-answer.ensures.answer; lines_are = e; refused_is = f }) c.reported.ensures.lines c.reported.ensures.refused
