use Rattle.std.proofs.Common.{◌≡◌, ◌∙◌, option_map, refl, sym, ap, subst, Err}
use Rattle.std.proofs.lemmas.Result.{err_from_is_err_and}
use Rattle.endings.specs.Meanings.{Shelves, shelves}
use Rattle.endings.specs.Reports.{AreAnswers, OrNoMemory, Streams, streams}
use Rattle.endings.specs.Endings.{Ended}
use Rattle.endings.proofs.Making.{lines-ended, lines-stopped, not-come}
use Rattle.transfer_commands.specs.Answers.{IsAnswer}
use Rattle.transfer_commands.specs.Transferring.{transfer_meaning}
use Rattle.transfer_commands.specs.Views.{rewriter_of}
use Rattle.transfer_commands.proofs.serving.transfer_lines.Goals as goal

pub returns-in_err-transferrer : goal.returns-in_err-transferrer
returns-in_err-transferrer g c =
    let m = transfer_meaning c.args.command.now.rules.now (option_map (λ s. s.now) c.args.command.now.settings) c.args.command.now.verbose in
    let h : Shelves = shelves g.S.Shelf.files g.S.Shelf.faults g.S.Shelf.asked c.args.shelf.now c.load.new.shelf in
    let o : Streams = streams g.I.Source.left g.I.Source.faults g.O.Sink.written g.O.Sink.flushed g.O.Sink.faults c.args.input.now c.args.input.now c.args.out.now c.args.out.now in
    let idle = c.args.input.now ≡ c.args.input.now in
    let untouched = (c.args.input.now ≡ c.args.input.now) × (c.args.out.now ≡ c.args.out.now) in
    let p = err_from_is_err_and c.from_residual.result c.from_residual.ensures.1 in
    subst (Ended m h o idle untouched) (sym (p.1 ∙ ap Err p.2)) (not-come m h o idle untouched c.in_err-transferrer.field-0.0 c.in_err-transferrer.ensures.fault (refl, refl))

pub returns-in_err-refused : goal.returns-in_err-refused
returns-in_err-refused g c =
    let m = transfer_meaning c.args.command.now.rules.now (option_map (λ s. s.now) c.args.command.now.settings) c.args.command.now.verbose in
    let h : Shelves = shelves g.S.Shelf.files g.S.Shelf.faults g.S.Shelf.asked c.args.shelf.now c.load.new.shelf in
    let o : Streams = streams g.I.Source.left g.I.Source.faults g.O.Sink.written g.O.Sink.flushed g.O.Sink.faults c.args.input.now c.serve.new.input c.args.out.now c.serve.new.out in
    let idle = c.serve.new.input ≡ c.args.input.now in
    let untouched = (c.serve.new.input ≡ c.args.input.now) × (c.serve.new.out ≡ c.args.out.now) in
    let w = rewriter_of c.in_ok-transferrer.transferrer in
    let p = err_from_is_err_and c.from_residual-in_err-refused.result c.from_residual-in_err-refused.ensures.1 in
    subst (Ended m h o idle untouched) (sym (p.1 ∙ ap Err p.2))
    (lines-stopped m h o idle untouched (AreAnswers (IsAnswer w) 1) (AreAnswers (OrNoMemory (IsAnswer w)) 1) refl (λ lines pieces refused r. (w, c.in_ok-transferrer.ensures.rewriter, r)) (λ lines pieces wanting r. (w, c.in_ok-transferrer.ensures.rewriter, r)) c.in_err-refused.field-0.0 c.in_err-refused.ensures)

pub returns : goal.returns
returns g c =
    let m = transfer_meaning c.args.command.now.rules.now (option_map (λ s. s.now) c.args.command.now.settings) c.args.command.now.verbose in
    let h : Shelves = shelves g.S.Shelf.files g.S.Shelf.faults g.S.Shelf.asked c.args.shelf.now c.load.new.shelf in
    let o : Streams = streams g.I.Source.left g.I.Source.faults g.O.Sink.written g.O.Sink.flushed g.O.Sink.faults c.args.input.now c.serve.new.input c.args.out.now c.serve.new.out in
    let idle = c.serve.new.input ≡ c.args.input.now in
    let untouched = (c.serve.new.input ≡ c.args.input.now) × (c.serve.new.out ≡ c.args.out.now) in
    let w = rewriter_of c.in_ok-transferrer.transferrer in
    lines-ended m h o idle untouched (AreAnswers (IsAnswer w) 1) (AreAnswers (OrNoMemory (IsAnswer w)) 1) refl (λ lines pieces refused r. (w, c.in_ok-transferrer.ensures.rewriter, r)) (λ lines pieces wanting r. (w, c.in_ok-transferrer.ensures.rewriter, r)) c.in_ok-refused.refused c.in_ok-refused.ensures
