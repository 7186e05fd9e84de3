use Rattle.std.proofs.Common.{map}
use Rattle.morph_analysis.specs.LatticeViews.{lattice_of}
use Rattle.engine.specs.Views.{speech_of}
use Rattle.engine.proofs.Results.{if-ok}
use Rattle.line_commands.specs.Lines.{answered}
use Rattle.line_commands.specs.Answers.{IsAnswer}
use Rattle.line_commands.specs.Notes.{IsNote}
use Rattle.line_commands.specs.Inner.Parsers.{asked_of, IsReportOf, IsNoteOf}
use Rattle.line_commands.proofs.Noting.{note-of-line}
use Rattle.line_commands.proofs.answering.Parser.answer_alone.Goals as goal

pub returns-in-Ok-clause-report : goal.returns-in-Ok-clause-report
returns-in-Ok-clause-report c =
    let p = c.args.self.now in
    if-ok c.parsed.result
    (λ a. IsReportOf p c.args.number (lattice_of c.in-Ok.lattice) (map (λ l. l.items) a.report.lines.items) a.report.refused)
    (λ a. IsAnswer (speech_of p.engine) (asked_of p) c.args.number c.args.line.now (map (λ l. l.items) a.report.lines.items) a.report.refused)
    (λ a is. answered (lattice_of c.in-Ok.lattice) (map (λ l. l.items) a.report.lines.items) a.report.refused c.in-Ok.ensures.text c.in-Ok.ensures.lattice is) c.parsed.ensures.report

pub returns-in-Ok-clause-note : goal.returns-in-Ok-clause-note
returns-in-Ok-clause-note c =
    let p = c.args.self.now in
    if-ok c.parsed.result
    (λ a. IsNoteOf p c.args.number (lattice_of c.in-Ok.lattice) a.note.items)
    (λ a. IsNote p.verbose (speech_of p.engine) (asked_of p) c.args.number c.args.line.now a.note.items)
    (λ a is. note-of-line (speech_of p.engine) (asked_of p) c.args.number p.verbose c.args.line.now (lattice_of c.in-Ok.lattice) a.note.items c.in-Ok.ensures.text c.in-Ok.ensures.lattice is) c.parsed.ensures.note

pub returns-in-Err-clause-report : goal.returns-in-Err-clause-report
returns-in-Err-clause-report c =
    let p = c.args.self.now in
    if-ok c.without_lattice.result _
    (λ a. IsAnswer (speech_of p.engine) (asked_of p) c.args.number c.args.line.now (map (λ l. l.items) a.report.lines.items) a.report.refused)
    (λ a is. is c.args.line.now c.in-Err.ensures.fault) c.without_lattice.ensures.report

pub returns-in-Err-clause-note : goal.returns-in-Err-clause-note
returns-in-Err-clause-note c =
    let p = c.args.self.now in
    if-ok c.without_lattice.result _
    (λ a. IsNote p.verbose (speech_of p.engine) (asked_of p) c.args.number c.args.line.now a.note.items)
    (λ a is. is c.args.line.now c.in-Err.ensures.fault) c.without_lattice.ensures.note
