use Rattle.std.proofs.Common.{refl, sym, subst, append-nil, [], ◌∷◌, false}
use Rattle.lkb_io.specs.Outside.{Adds, AddsFront}
use Rattle.endings.specs.Reports.{NoReport, output}
use Rattle.endings.proofs.Flushing.{said-front}
use Rattle.endings.proofs.pieces.say.Goals as goal

pub returns-in-Ok : goal.returns-in-Ok
returns-in-Ok g c =
    let w = g.O.Sink.written in
    record {
      pieces = c.args.line.now ∷ [];
      report = λ lines. (refl, refl);
      writes = subst (Adds (w c.args.out.now) (w c.put_text.new.out)) (sym (append-nil c.args.line.now)) c.in-Ok.ensures.put.0;
      flushed = c.in-Ok.ensures.flushed;
    }

pub returns-in-Err : goal.returns-in-Err
returns-in-Err g c =
    let w = g.O.Sink.written in
    let put = c.in-Err.ensures.put in
    let p = output g.O.Sink.written g.O.Sink.flushed g.O.Sink.faults c.args.out.now c.flush_at_stop.new.out in
    let front = subst (AddsFront (w c.args.out.now) (w c.put_text.new.out)) (sym (append-nil c.args.line.now)) put.0 in
    said-front (c.args.line.now ∷ []) false p (w c.put_text.new.out) (g.O.Sink.faults c.put_text.new.out) front put.1 put.2 c.flush_at_stop.ensures.same c.flush_at_stop.ensures.no_fall NoReport
