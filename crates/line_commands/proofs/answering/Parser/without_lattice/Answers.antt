use Rattle.std.proofs.Common.{map}
use Rattle.engine.specs.Views.{speech_of}
use Rattle.line_commands.specs.Inner.Parsers.{asked_of, IsReportOf}
use Rattle.line_commands.proofs.Answered.{answered-without}
use Rattle.line_commands.proofs.Noting.{note-without}
use Rattle.line_commands.proofs.answering.Parser.without_lattice.Goals as goal

pub returns-clause-report : goal.returns-clause-report
returns-clause-report c = λ line none.
    let p = c.args.self.now in
    let r = c.in_ok-report.report in
    answered-without p.lattice (IsReportOf p c.args.number) c.args.number line c.args.why none (map (λ l. l.items) r.lines.items) r.refused c.in_ok-report.ensures

pub returns-clause-note : goal.returns-clause-note
returns-clause-note c = λ line none.
    let p = c.args.self.now in
    let r = c.in_ok-report.report in
    note-without (speech_of p.engine) (asked_of p) c.args.number p.verbose line c.args.why none (map (λ l. l.items) r.lines.items) r.refused c.in_ok-report.ensures c.new.result.items c.new.ensures.items
