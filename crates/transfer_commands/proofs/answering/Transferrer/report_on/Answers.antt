use Rattle.std.proofs.Common.{◌≡◌, ◌∷◌, [], map, true, false, codes, inl, inr}
use Rattle.mrs_model.specs.Views.{meaning_of}
use Rattle.item_reports.specs.Reports.{item_line, refused_line}
use Rattle.transfer_commands.specs.Rewriters.{allowed}
use Rattle.transfer_commands.specs.Reports.{Rewritten, OverBudget, count, mrs_line}
use Rattle.transfer_commands.specs.Views.{rewriter_of}
use Rattle.transfer_commands.specs.Inner.{IsReportOn}
use Rattle.transfer_commands.proofs.Answered.{if-both}
use Rattle.transfer_commands.proofs.answering.Transferrer.report_on.Goals as goal

pub returns-in-Ok : goal.returns-in-Ok
returns-in-Ok c =
    let w = rewriter_of c.args.self.now in
    let m = meaning_of c.args.mrs in
    let done = c.in-Ok.done in
    if-both c.report_of_result.result
    (λ r. map (λ l. l.items) r.lines.items ≡ item_line c.args.number (count done.steps) ∷ mrs_line (meaning_of done.mrs) ∷ [])
    (λ r. r.refused ≡ false)
    (λ r. IsReportOn w c.args.number m (map (λ l. l.items) r.lines.items) r.refused)
    (λ r e f. record { answer = Rewritten done.steps (meaning_of done.mrs); is = c.in-Ok.ensures.result (allowed w) (λ rule site yes is. is); lines_are = e; refused_is = f })
    c.report_of_result.ensures.lines c.report_of_result.ensures.refused

pub returns-in-Err-Budget : goal.returns-in-Err-Budget
returns-in-Err-Budget c =
    let w = rewriter_of c.args.self.now in
    let m = meaning_of c.args.mrs in
    if-both c.report_of_budget.result
    (λ r. map (λ l. l.items) r.lines.items ≡ refused_line c.args.number (codes "budget") ∷ [])
    (λ r. r.refused ≡ true)
    (λ r. IsReportOn w c.args.number m (map (λ l. l.items) r.lines.items) r.refused)
    (λ r e f. record {
      answer = OverBudget;
      is = elim (c.in-Err-Budget.ensures.budget (allowed w) (λ rule site yes is. is)) [ inl e ↦ absurd (let same = e in cc) | inr x ↦ x.1 ];
      lines_are = e;
      refused_is = f;
    })
    c.report_of_budget.ensures.lines c.report_of_budget.ensures.refused
