use Rattle.std.proofs.Common.{refl, map, true, inl, inr, arith}
use Rattle.std.specs.List.{concat}
use Rattle.lkb_io.specs.Outside.{HasRisen}
use Rattle.endings.proofs.Flushing.{AddsFront-same}
use Rattle.endings.proofs.pieces.put_with_gaps.Goals as goal

pub returns-in-Ok : goal.returns-in-Ok
returns-in-Ok g c =
    (record { pieces = map (λ l. l.items) c.args.lines.now; report = λ lines. (refl, refl); writes = c.in-Ok.ensures.put.0; flushed = c.in-Ok.ensures.flushed }, inl c.in-Ok.ensures.flushed)

pub returns-in-Err : goal.returns-in-Err
returns-in-Err g c =
    let put = c.in-Err.ensures.put in
    let later = c.flush_at_stop.ensures.no_fall in
    let risen = put.2 in
    let w = g.O.Sink.written in
    let rose : HasRisen (g.O.Sink.faults c.args.out.now) (g.O.Sink.faults c.flush_at_stop.new.out) = omega (arith, risen, later) in (
      record {
        pieces = map (λ l. l.items) c.args.lines.now;
        refused = true;
        report = λ lines. (refl, refl);
        writes = AddsFront-same (w c.args.out.now) (w c.put_whole.new.out) (w c.flush_at_stop.new.out) (concat (map (λ l. l.items) c.args.lines.now)) put.0 c.flush_at_stop.ensures.same;
      },
      inr rose,
    )
