use Rattle.std.proofs.Common.{◌≤◌, take}
use Rattle.std.specs.List.{concat}
use Rattle.lkb_io.specs.Outside.{Adds}
use Rattle.endings.specs.Inner.Batches.{lines_of_all}
use Rattle.endings.proofs.telling.put_told.Given as goal

abbrev pub invariant-loop-place : goal.invariant-loop-place
invariant-loop-place g l = record {
  added : Adds (g.O.Sink.written l.fn.out) (g.O.Sink.written l.out) (concat (lines_of_all l.number (take l.place l.told)));
  no_fall : g.O.Sink.faults l.fn.out ≤ g.O.Sink.faults l.out;
}
