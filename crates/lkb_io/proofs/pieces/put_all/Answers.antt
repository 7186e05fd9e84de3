use Rattle.std.proofs.Common.{◌∙◌, [], take, drop, arith, subst, ap, append-nil, length-drop}
use Rattle.std.proofs.lemmas.List.{take-append-drop}
use Rattle.lkb_io.specs.Outside.{Adds}
use Rattle.lkb_io.proofs.Told.{Adds-more}
use Rattle.lkb_io.proofs.Ends.{take-more, rest-whole}
use Rattle.lkb_io.proofs.pieces.put_all.Goals as goal

pub returns-in_err-at-clause-front : goal.returns-in_err-at-clause-front
returns-in_err-at-clause-front g c =
    let w = g.O.Sink.written in
    let x = take c.loop-at.at c.args.piece.now in
    let h = Adds-more (w c.args.sink.now) (w c.loop-at.sink) (w c.write.new.self) x [] c.loop-at.invariant.added c.in_err-at.ensures.err in
    (x, (drop c.loop-at.at c.args.piece.now, take-append-drop c.loop-at.at c.args.piece.now), subst (Adds (w c.args.sink.now) (w c.write.new.self)) (append-nil x) h)

pub loop-at-preserved : goal.loop-at-preserved
loop-at-preserved g c =
    let w = g.O.Sink.written in
    let x = take c.loop-at.at c.args.piece.now in
    let n = c.in_ok-at.field-0 in
    let h = Adds-more (w c.args.sink.now) (w c.loop-at.sink) (w c.write.new.self) x (take n (drop c.loop-at.at c.args.piece.now)) c.loop-at.invariant.added (subst (Adds (w c.loop-at.sink) (w c.write.new.self)) (ap (take n) (rest-whole c.args.piece.now c.loop-at.at)) c.in_ok-at.ensures.ok) in
    let within = c.in_ok-at.ensures.within in
    let inv = c.loop-at.invariant in
    record {
      in_range = omega (arith, within, inv.in_range, length-drop c.loop-at.at c.args.piece.now);
      added = subst (Adds (w c.args.sink.now) (w c.write.new.self)) (take-more c.args.piece.now c.loop-at.at n) h;
      same_flushed = c.in_ok-at.ensures.same_flushed ∙ inv.same_flushed;
      no_fall = omega (arith, inv.no_fall, c.in_ok-at.ensures.no_fall);
    }
