use Rattle.std.proofs.Common.{◌≡◌, map}
use Rattle.mrs_model.specs.Views.{meaning_of}
use Rattle.mrs_generate.specs.Views.{answer_seen}
use Rattle.sentence_reports.specs.Reports.{answer_lines, is_refused}
use Rattle.generate_commands.specs.Inner.Generators.{IsReportOf}
use Rattle.engine.proofs.Results.{if-both}
use Rattle.generate_commands.proofs.answering.Generator.generated.Goals as goal

pub returns : goal.returns
returns c =
    let p = c.args.self.now in
    let a = answer_seen c.in_ok-answer.answer in
    if-both c.report_of.result
    (λ r. map (λ l. l.items) r.lines.items ≡ answer_lines c.args.number a)
    (λ r. r.refused ≡ is_refused a)
    (λ r. IsReportOf p c.args.number (meaning_of c.args.mrs.now) (map (λ l. l.items) r.lines.items) r.refused)
    (λ r e f. record { answer = a; is = c.in_ok-answer.ensures; lines_are = e; refused_is = f }) c.report_of.ensures.lines c.report_of.ensures.refused
