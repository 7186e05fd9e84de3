use Rattle.std.proofs.Common.{refl, subst, map, List, ℕ, Vec, Global}
use Rattle.std.specs.List.{concat}
use Rattle.lkb_io.specs.Outside.{Adds, AddsFront}
use Rattle.endings.specs.Reports.{NoReport, output}
use Rattle.endings.proofs.Flushing.{said-front}
use Rattle.endings.proofs.pieces.put_report.Goals as goal

abbrev text : List (Vec ℕ Global) → List ℕ
text lines = concat (map (λ l. l.items) lines)

pub returns-in-Ok : goal.returns-in-Ok
returns-in-Ok g c =
    let w = g.O.Sink.written in
    record {
      pieces = map (λ l. l.items) c.args.report.now.lines.items;
      report = λ lines. (refl, refl);
      writes = subst (λ ls. Adds (w c.args.out.now) (w c.put_whole.new.out) (text ls)) c.deref.ensures.value c.in-Ok.ensures.put.0;
      flushed = c.in-Ok.ensures.flushed;
    }

pub returns-in-Err : goal.returns-in-Err
returns-in-Err g c =
    let w = g.O.Sink.written in
    let put = c.in-Err.ensures.put in
    let p = output g.O.Sink.written g.O.Sink.flushed g.O.Sink.faults c.args.out.now c.flush_at_stop.new.out in
    let front = subst (λ ls. AddsFront (w c.args.out.now) (w c.put_whole.new.out) (text ls)) c.deref.ensures.value put.0 in
    said-front (map (λ l. l.items) c.args.report.now.lines.items) c.args.report.now.refused p (w c.put_whole.new.out) (g.O.Sink.faults c.put_whole.new.out) front put.1 put.2 c.flush_at_stop.ensures.same c.flush_at_stop.ensures.no_fall NoReport
