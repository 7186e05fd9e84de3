use Rattle.std.proofs.Common.{ℕ, ◌≡◌, ◌∷◌, [], map, inl, inr, true, subst, IfOk}
use Rattle.mrs_model.specs.Views.{meaning_of}
use Rattle.mrs_reading.specs.Places.{IsPlace}
use Rattle.engine.proofs.Results.{if-ok, if-both}
use Rattle.generate_commands.specs.Answers.{IsAnswer}
use Rattle.item_reports.specs.Reports.{no_mrs_line}
use Rattle.generate_commands.specs.Contributing.{speaker_of, bounds_of}
use Rattle.generate_commands.specs.Inner.Generators.{IsReportOf}
use Rattle.generate_commands.proofs.Answered.{answered-with, wrong-with}
use Rattle.generate_commands.proofs.answering.Generator.answer_alone.Goals as goal

pub returns-in-Ok : goal.returns-in-Ok
returns-in-Ok c =
    let p = c.args.self.now in
    let m = meaning_of c.in-Ok.mrs in
    if-ok c.generated.result
    (λ r. IsReportOf p c.args.number m (map (λ l. l.items) r.lines.items) r.refused)
    (λ r. IsAnswer (speaker_of p) (bounds_of p) c.args.number c.args.line.now (map (λ l. l.items) r.lines.items) r.refused)
    (λ r is. answered-with (speaker_of p) (bounds_of p) c.args.number c.args.line.now m is.answer c.in-Ok.ensures.utf8 c.in-Ok.ensures.found is.is (map (λ l. l.items) r.lines.items) r.refused is.lines_are is.refused_is)
    c.generated.ensures

pub returns-in-Err-At : goal.returns-in-Err-At
returns-in-Err-At c =
    let p = c.args.self.now in
    elim c.in-Err-At.ensures.fault [
      | inl e ↦ absurd (let same = e in cc)
      | inr x ↦ if-both c.report_of_no_mrs.result
          (λ r. map (λ l. l.items) r.lines.items ≡ no_mrs_line c.args.number c.in-Err-At.at ∷ [])
          (λ r. r.refused ≡ true)
          (λ r. IsAnswer (speaker_of p) (bounds_of p) c.args.number c.args.line.now (map (λ l. l.items) r.lines.items) r.refused)
          (λ r e f. wrong-with (speaker_of p) (bounds_of p) c.args.number c.args.line.now c.in-Err-At.at (let same : x.0 ≡ c.in-Err-At.at = (let e' = x.1 in cc) in subst (λ (k : ℕ). IsPlace c.args.line.now k) same x.2) (map (λ l. l.items) r.lines.items) r.refused e f)
          (subst (λ at. IfOk c.report_of_no_mrs.result (λ r. map (λ l. l.items) r.lines.items ≡ no_mrs_line c.args.number at ∷ [])) c.in-Err-At.at-is c.report_of_no_mrs.ensures.lines) c.report_of_no_mrs.ensures.refused
    ]
