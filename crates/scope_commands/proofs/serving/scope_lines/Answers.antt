use Rattle.std.proofs.Common.{◌≡◌, ◌∙◌, refl, sym, ap, subst, Err}
use Rattle.std.proofs.lemmas.Result.{err_from_is_err_and}
use Rattle.endings.specs.Reports.{AreAnswers, OrNoMemory, streams}
use Rattle.endings.specs.Endings.{Ended}
use Rattle.endings.proofs.Making.{lines-ended, lines-stopped}
use Rattle.scope_commands.specs.Answers.{IsAnswer}
use Rattle.scope_commands.specs.Scoping.{scope_meaning}
use Rattle.scope_commands.proofs.serving.scope_lines.Goals as goal

pub returns-in_err-refused : goal.returns-in_err-refused
returns-in_err-refused g c = λ h.
    let max = c.args.scoper.now.max in
    let m = scope_meaning max in
    let o = streams g.I.Source.left g.I.Source.faults g.O.Sink.written g.O.Sink.flushed g.O.Sink.faults c.args.input.now c.serve.new.input c.args.out.now c.serve.new.out in
    let idle = c.serve.new.input ≡ c.args.input.now in
    let untouched = (c.serve.new.input ≡ c.args.input.now) × (c.serve.new.out ≡ c.args.out.now) in
    let p = err_from_is_err_and c.from_residual.result c.from_residual.ensures.1 in
    subst (Ended m h o idle untouched) (sym (p.1 ∙ ap Err p.2))
    (lines-stopped m h o idle untouched (AreAnswers (IsAnswer max) 1) (AreAnswers (OrNoMemory (IsAnswer max)) 1) refl (λ lines pieces refused r. r) (λ lines pieces wanting r. r) c.in_err-refused.field-0.0 c.in_err-refused.ensures)

pub returns : goal.returns
returns g c = λ h.
    let max = c.args.scoper.now.max in
    let m = scope_meaning max in
    let o = streams g.I.Source.left g.I.Source.faults g.O.Sink.written g.O.Sink.flushed g.O.Sink.faults c.args.input.now c.serve.new.input c.args.out.now c.serve.new.out in
    let idle = c.serve.new.input ≡ c.args.input.now in
    let untouched = (c.serve.new.input ≡ c.args.input.now) × (c.serve.new.out ≡ c.args.out.now) in
    lines-ended m h o idle untouched (AreAnswers (IsAnswer max) 1) (AreAnswers (OrNoMemory (IsAnswer max)) 1) refl (λ lines pieces refused r. r) (λ lines pieces wanting r. r) c.in_ok-refused.refused c.in_ok-refused.ensures
