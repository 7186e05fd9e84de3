use Rattle.std.proofs.Common.{◌≡◌, ◌∷◌, [], ◌∙◌, sym, ap, subst, refl, Err, false}
use Rattle.std.proofs.lemmas.Result.{err_from_is_err_and}
use Rattle.endings.specs.Meanings.{shelves}
use Rattle.endings.specs.Reports.{Exactly, NoReport, streams}
use Rattle.endings.specs.Endings.{Ended}
use Rattle.endings.specs.PlainTexts.{plain_meaning}
use Rattle.endings.proofs.Making.{exactly, none-gapped, whole-stopped}
use Rattle.endings.proofs.NotedClauses.{none-noted, tells-nothing}
use Rattle.endings.proofs.plain.PlainCommand.perform.Goals as goal

pub returns-in_err-say-clause-ended : goal.returns-in_err-say-clause-ended
returns-in_err-say-clause-ended g c =
    let m = plain_meaning c.args.self.now.text.now in
    let h = shelves g.S.Shelf.files g.S.Shelf.faults g.S.Shelf.asked c.args._shelf.now c.args._shelf.now in
    let o = streams g.I.Source.left g.I.Source.faults g.O.Sink.written g.O.Sink.flushed g.O.Sink.faults c.args._input.now c.args._input.now c.args.out.now c.say.new.out in
    let idle = c.args._input.now ≡ c.args._input.now in
    let untouched = (c.args._input.now ≡ c.args._input.now) × (c.say.new.out ≡ c.args.out.now) in
    let p = err_from_is_err_and c.from_residual.result c.from_residual.ensures.1 in
    subst (Ended m h o idle untouched) (sym (p.1 ∙ ap Err p.2))
    (whole-stopped m h o idle untouched (Exactly (c.args.self.now.text.now ∷ []) false) NoReport refl (exactly (m.report h.files) (c.args.self.now.text.now ∷ []) false (λ lines. (refl, refl))) (none-gapped (m.with_gaps h.files)) refl c.in_err-say.field-0.0 c.in_err-say.ensures)

pub returns-in_err-say-clause-noted : goal.returns-in_err-say-clause-noted
returns-in_err-say-clause-noted g c =
    let m = plain_meaning c.args.self.now.text.now in
    let old = g.I.Source.left c.args._input.now in
    ([], none-noted m (g.S.Shelf.files c.args._shelf.now) old old refl (λ gaps lines. refl) _, tells-nothing (g.X.Sink.written c.args._err.now) (g.X.Sink.faults c.args._err.now))

pub returns-clause-noted : goal.returns-clause-noted
returns-clause-noted g c = ([], λ gaps lines. refl, tells-nothing (g.X.Sink.written c.args._err.now) (g.X.Sink.faults c.args._err.now))
