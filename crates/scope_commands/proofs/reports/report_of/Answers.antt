use Rattle.std.proofs.Common.{◌≡◌, ◌∙◌, ◌∷◌, [], map, true, false, ap, subst, codes}
use Rattle.mrs_model.specs.Views.{meaning_of}
use Rattle.item_reports.specs.Reports.{refused_line}
use Rattle.scope_model.specs.Answers.{plugged_of, IsScopeFault}
use Rattle.scope_commands.specs.Reports.{Readings, OtherRelation, TooMany, readings_lines}
use Rattle.scope_commands.specs.Inner.{IsReportOn}
use Rattle.scope_commands.proofs.Answered.{if-both}
use Rattle.scope_commands.proofs.reports.report_of.Goals as goal

pub returns-in-Ok : goal.returns-in-Ok
returns-in-Ok c =
    let m = meaning_of c.args.mrs.now in
    if-both c.report_of_readings.result
    (λ r. map (λ l. l.items) r.lines.items ≡ readings_lines c.args.number (map plugged_of c.deref.result.now))
    (λ r. r.refused ≡ false)
    (λ r. IsReportOn c.args.max c.args.number m (map (λ l. l.items) r.lines.items) r.refused)
    (λ r e f. record { answer = Readings (map plugged_of c.in-Ok.readings.items); is = c.in-Ok.ensures.ok; lines_are = e ∙ ap (λ ps. readings_lines c.args.number (map plugged_of ps)) c.deref.ensures.value; refused_is = f })
    c.report_of_readings.ensures.lines c.report_of_readings.ensures.refused

pub returns-in-Err-Relation : goal.returns-in-Err-Relation
returns-in-Err-Relation c =
    let m = meaning_of c.args.mrs.now in
    if-both c.report_of_refusal.result
    (λ r. map (λ l. l.items) r.lines.items ≡ refused_line c.args.number (codes "relation") ∷ [])
    (λ r. r.refused ≡ true)
    (λ r. IsReportOn c.args.max c.args.number m (map (λ l. l.items) r.lines.items) r.refused)
    (λ r e f. record { answer = OtherRelation; is = (c.in-Err-Relation.field-0-0, subst (λ fault. IsScopeFault m c.args.max fault) c.in-Err-Relation.field-0-is c.in-Err-Relation.ensures.fault); lines_are = e; refused_is = f })
    c.report_of_refusal.ensures.lines c.report_of_refusal.ensures.refused

pub returns-in-Err-ReadingLimit : goal.returns-in-Err-ReadingLimit
returns-in-Err-ReadingLimit c =
    let m = meaning_of c.args.mrs.now in
    if-both c.report_of_refusal-in-Err-ReadingLimit.result
    (λ r. map (λ l. l.items) r.lines.items ≡ refused_line c.args.number (codes "readings") ∷ [])
    (λ r. r.refused ≡ true)
    (λ r. IsReportOn c.args.max c.args.number m (map (λ l. l.items) r.lines.items) r.refused)
    (λ r e f. record { answer = TooMany; is = subst (λ fault. IsScopeFault m c.args.max fault) c.in-Err-ReadingLimit.field-0-is c.in-Err-ReadingLimit.ensures.fault; lines_are = e; refused_is = f })
    c.report_of_refusal-in-Err-ReadingLimit.ensures.lines c.report_of_refusal-in-Err-ReadingLimit.ensures.refused
