use Rattle.std.proofs.Common.{◌≡◌, length, ◌-◌, ◌≤◌, take}
use Rattle.lkb_io.specs.Outside.{Adds}
use Rattle.lkb_io.proofs.pieces.put_all.Given as goal

abbrev pub invariant-loop-at : goal.invariant-loop-at
invariant-loop-at g l = record {
  in_range : l.at ≤ length l.piece;
  added : Adds (g.O.Sink.written l.fn.sink) (g.O.Sink.written l.sink) (take l.at l.piece);
  same_flushed : g.O.Sink.flushed l.sink ≡ g.O.Sink.flushed l.fn.sink;
  no_fall : g.O.Sink.faults l.fn.sink ≤ g.O.Sink.faults l.sink;
}

abbrev pub decreases-loop-at : goal.decreases-loop-at
decreases-loop-at g l = length l.piece - l.at
