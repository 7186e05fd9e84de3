use Rattle.std.proofs.Common.{◌≡◌, ◌∙◌, ℕ, List, true, sym, ap, subst, refl, map, Ok, Err}
use Rattle.std.proofs.lemmas.Result.{err_from_is_err_and}
use Rattle.endings.specs.declared.commands.ItemsReport.{ItemsReport}
use Rattle.endings.specs.declared.Fault.TheVariants.{Stopped}
use Rattle.endings.specs.Meanings.{Meaning, Shelves, shelves}
use Rattle.endings.specs.Reports.{Exactly, NoReport, streams}
use Rattle.endings.specs.Endings.{Ended, IsReportOn}
use Rattle.endings.proofs.Making.{exactly, none-gapped, whole-ended, whole-stopped}
use Rattle.endings.proofs.commands.write_items.Goals as goal
use Rattle.endings.proofs.commands.write_items.Goals.{in-AllAnswered+in_ok-refused-in-AllAnswered, in-WithGaps}

-- what is said of a report
abbrev Says : Meaning → Shelves → ItemsReport → Type 0
Says m h made = (lines : List (List ℕ)) → IsReportOn m h made lines

pub returns-in_err-refused-in-AllAnswered-clause-ended :
    goal.returns-in_err-refused-in-AllAnswered-clause-ended
returns-in_err-refused-in-AllAnswered-clause-ended g c =
    let m = g.W.OfItems.meaning c.args.command.now in
    let h = shelves g.S.Shelf.files g.S.Shelf.faults g.S.Shelf.asked c.args.shelf.now c.report.new.shelf in
    let o = streams g.I.Source.left g.I.Source.faults g.O.Sink.written g.O.Sink.flushed g.O.Sink.faults c.args.input.now c.args.input.now c.args.out.now c.put_report.new.out in
    let idle = c.args.input.now ≡ c.args.input.now in
    let untouched = (c.args.input.now ≡ c.args.input.now) × (c.put_report.new.out ≡ c.args.out.now) in
    let p = err_from_is_err_and c.from_residual-in_err-refused-in-AllAnswered.result c.from_residual-in_err-refused-in-AllAnswered.ensures.1 in
    let own = map (λ l. l.items) c.in-AllAnswered.report.lines.items in
    let told = c.in-AllAnswered.report.refused in
    let made = subst (Says m h) c.in-AllAnswered.is c.in_ok-made.ensures.made in
    subst (Ended m h o idle untouched) (sym (p.1 ∙ ap Err p.2))
    (whole-stopped m h o idle untouched (Exactly own told) NoReport c.requires (exactly (m.report h.files) own told made) (none-gapped (m.with_gaps h.files)) refl c.in_err-refused-in-AllAnswered.field-0.0 c.in_err-refused-in-AllAnswered.ensures)

pub returns-clause-ended : goal.returns-clause-ended
returns-clause-ended g c = elim c.match-made.branch [
  | in-AllAnswered+in_ok-refused-in-AllAnswered w ↦ (
      let m = g.W.OfItems.meaning c.args.command.now in
      let h = shelves g.S.Shelf.files g.S.Shelf.faults g.S.Shelf.asked c.args.shelf.now c.report.new.shelf in
      let o = streams g.I.Source.left g.I.Source.faults g.O.Sink.written g.O.Sink.flushed g.O.Sink.faults c.args.input.now c.args.input.now c.args.out.now c.match-made.out in
      let idle = c.args.input.now ≡ c.args.input.now in
      let untouched = (c.args.input.now ≡ c.args.input.now) × (c.match-made.out ≡ c.args.out.now) in
      let own = map (λ l. l.items) w.in-AllAnswered.report.lines.items in
      let told = w.in-AllAnswered.report.refused in
      let made = subst (Says m h) w.in-AllAnswered.is c.in_ok-made.ensures.made in
      subst (Ended m h o idle untouched) (sym w.result-is)
      (subst (λ out. Ended m h (streams g.I.Source.left g.I.Source.faults g.O.Sink.written g.O.Sink.flushed g.O.Sink.faults c.args.input.now c.args.input.now c.args.out.now out) idle ((c.args.input.now ≡ c.args.input.now) × (out ≡ c.args.out.now)) (Ok w.in_ok-refused-in-AllAnswered.refused)) (sym w.out-is)
      (whole-ended m h (streams g.I.Source.left g.I.Source.faults g.O.Sink.written g.O.Sink.flushed g.O.Sink.faults c.args.input.now c.args.input.now c.args.out.now w.put_report.new.out) idle ((c.args.input.now ≡ c.args.input.now) × (w.put_report.new.out ≡ c.args.out.now)) (Exactly own told) NoReport c.requires (exactly (m.report h.files) own told made) (none-gapped (m.with_gaps h.files)) refl w.in_ok-refused-in-AllAnswered.refused w.in_ok-refused-in-AllAnswered.ensures)))
  | in-WithGaps w ↦ (
      let m = g.W.OfItems.meaning c.args.command.now in
      let h = shelves g.S.Shelf.files g.S.Shelf.faults g.S.Shelf.asked c.args.shelf.now c.report.new.shelf in
      let o = streams g.I.Source.left g.I.Source.faults g.O.Sink.written g.O.Sink.flushed g.O.Sink.faults c.args.input.now c.args.input.now c.args.out.now c.match-made.out in
      let idle = c.args.input.now ≡ c.args.input.now in
      let untouched = (c.args.input.now ≡ c.args.input.now) × (c.match-made.out ≡ c.args.out.now) in
      let own = map (λ l. l.items) w.deref.result.now in
      let made = subst (λ ls. (lines : List (List ℕ)) → m.with_gaps h.files lines (map (λ l. l.items) ls) true) (sym w.deref.ensures.value) (subst (Says m h) w.in-WithGaps.is c.in_ok-made.ensures.made) in
      subst (Ended m h o idle untouched) (sym w.result-is)
      (subst (λ out. Ended m h (streams g.I.Source.left g.I.Source.faults g.O.Sink.written g.O.Sink.flushed g.O.Sink.faults c.args.input.now c.args.input.now c.args.out.now out) idle ((c.args.input.now ≡ c.args.input.now) × (out ≡ c.args.out.now)) (Err (Stopped w.put_with_gaps.result))) (sym w.out-is)
      (whole-stopped m h (streams g.I.Source.left g.I.Source.faults g.O.Sink.written g.O.Sink.flushed g.O.Sink.faults c.args.input.now c.args.input.now c.args.out.now w.put_with_gaps.new.out) idle ((c.args.input.now ≡ c.args.input.now) × (w.put_with_gaps.new.out ≡ c.args.out.now)) NoReport (Exactly own true) c.requires (none-gapped (m.report h.files)) (exactly (m.with_gaps h.files) own true made) refl w.put_with_gaps.result w.put_with_gaps.ensures)))
]
