use Rattle.std.proofs.Common.{◌≡◌, ◌∙◌, sym, ap, subst, refl, map, Err}
use Rattle.std.proofs.lemmas.Result.{err_from_is_err_and}
use Rattle.endings.specs.Meanings.{shelves}
use Rattle.endings.specs.Reports.{Exactly, NoReport, streams}
use Rattle.endings.specs.Endings.{Ended}
use Rattle.endings.proofs.Making.{exactly, none-gapped, whole-ended, whole-stopped, not-come}
use Rattle.endings.proofs.commands.write_whole.Goals as goal

pub returns-in_err-report-clause-ended : goal.returns-in_err-report-clause-ended
returns-in_err-report-clause-ended g c =
    let m = g.W.Whole.meaning c.args.command.now in
    let h = shelves g.S.Shelf.files g.S.Shelf.faults g.S.Shelf.asked c.args.shelf.now c.report.new.shelf in
    let o = streams g.I.Source.left g.I.Source.faults g.O.Sink.written g.O.Sink.flushed g.O.Sink.faults c.args.input.now c.args.input.now c.args.out.now c.args.out.now in
    let idle = c.args.input.now ≡ c.args.input.now in
    let untouched = (c.args.input.now ≡ c.args.input.now) × (c.args.out.now ≡ c.args.out.now) in
    let p = err_from_is_err_and c.from_residual.result c.from_residual.ensures.1 in
    subst (Ended m h o idle untouched) (sym (p.1 ∙ ap Err p.2)) (not-come m h o idle untouched c.in_err-report.field-0.0 c.in_err-report.ensures.made (refl, refl))

pub returns-in_err-refused-clause-ended : goal.returns-in_err-refused-clause-ended
returns-in_err-refused-clause-ended g c =
    let m = g.W.Whole.meaning c.args.command.now in
    let h = shelves g.S.Shelf.files g.S.Shelf.faults g.S.Shelf.asked c.args.shelf.now c.report.new.shelf in
    let o = streams g.I.Source.left g.I.Source.faults g.O.Sink.written g.O.Sink.flushed g.O.Sink.faults c.args.input.now c.args.input.now c.args.out.now c.put_report.new.out in
    let idle = c.args.input.now ≡ c.args.input.now in
    let untouched = (c.args.input.now ≡ c.args.input.now) × (c.put_report.new.out ≡ c.args.out.now) in
    let p = err_from_is_err_and c.from_residual-in_err-refused.result c.from_residual-in_err-refused.ensures.1 in
    subst (Ended m h o idle untouched) (sym (p.1 ∙ ap Err p.2))
    (whole-stopped m h o idle untouched (Exactly (map (λ l. l.items) c.in_ok-report.report.lines.items) c.in_ok-report.report.refused) NoReport c.requires (exactly (m.report h.files) (map (λ l. l.items) c.in_ok-report.report.lines.items) c.in_ok-report.report.refused c.in_ok-report.ensures.made) (none-gapped (m.with_gaps h.files)) refl c.in_err-refused.field-0.0 c.in_err-refused.ensures)

pub returns-clause-ended : goal.returns-clause-ended
returns-clause-ended g c =
    let m = g.W.Whole.meaning c.args.command.now in
    let h = shelves g.S.Shelf.files g.S.Shelf.faults g.S.Shelf.asked c.args.shelf.now c.report.new.shelf in
    let o = streams g.I.Source.left g.I.Source.faults g.O.Sink.written g.O.Sink.flushed g.O.Sink.faults c.args.input.now c.args.input.now c.args.out.now c.put_report.new.out in
    let idle = c.args.input.now ≡ c.args.input.now in
    let untouched = (c.args.input.now ≡ c.args.input.now) × (c.put_report.new.out ≡ c.args.out.now) in
    whole-ended m h o idle untouched (Exactly (map (λ l. l.items) c.in_ok-report.report.lines.items) c.in_ok-report.report.refused) NoReport c.requires (exactly (m.report h.files) (map (λ l. l.items) c.in_ok-report.report.lines.items) c.in_ok-report.report.refused c.in_ok-report.ensures.made) (none-gapped (m.with_gaps h.files)) refl c.in_ok-refused.refused c.in_ok-refused.ensures
