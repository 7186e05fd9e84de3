use Rattle.std.proofs.Common.{map}
use Rattle.morph_analysis.specs.LatticeViews.{lattice_of}
use Rattle.engine.proofs.Results.{if-ok}
use Rattle.line_commands.specs.Lines.{answered}
use Rattle.line_commands.specs.Inner.Charters.{IsReportOf, IsLineOf}
use Rattle.line_commands.specs.Inner.Lattices.{IsReportWithout}
use Rattle.line_commands.proofs.Answered.{answered-without}
use Rattle.line_commands.proofs.charter.Charter.answer_alone.Goals as goal

pub returns-in-Ok : goal.returns-in-Ok
returns-in-Ok c =
    let p = c.args.self.now in
    if-ok c.charted.result
    (λ r. IsReportOf p c.args.number (lattice_of c.in-Ok.lattice) (map (λ l. l.items) r.lines.items) r.refused)
    (λ r. IsLineOf p c.args.number c.args.line.now (map (λ l. l.items) r.lines.items) r.refused)
    (λ r is. answered (lattice_of c.in-Ok.lattice) (map (λ l. l.items) r.lines.items) r.refused c.in-Ok.ensures.text c.in-Ok.ensures.lattice is) c.charted.ensures

pub returns-in-Err : goal.returns-in-Err
returns-in-Err c =
    let p = c.args.self.now in
    if-ok c.report_of_no_lattice.result
    (λ r. IsReportWithout c.args.number c.in-Err.why (map (λ l. l.items) r.lines.items) r.refused)
    (λ r. IsLineOf p c.args.number c.args.line.now (map (λ l. l.items) r.lines.items) r.refused)
    (λ r is. answered-without p.lattice (IsReportOf p c.args.number) c.args.number c.args.line.now c.in-Err.why c.in-Err.ensures.fault (map (λ l. l.items) r.lines.items) r.refused is) c.report_of_no_lattice.ensures
