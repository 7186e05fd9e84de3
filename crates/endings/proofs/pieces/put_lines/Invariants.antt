use Rattle.std.proofs.Common.{◌≤◌, take, map}
use Rattle.std.specs.List.{concat}
use Rattle.lkb_io.specs.Outside.{Adds}
use Rattle.endings.proofs.pieces.put_lines.Given as goal

abbrev pub invariant-loop-line : goal.invariant-loop-line
invariant-loop-line g l = record {
  added : Adds (g.O.Sink.written l.fn.out) (g.O.Sink.written l.out) (concat (take l.line-index (map (λ v. v.items) l.lines)));
  no_fall : g.O.Sink.faults l.fn.out ≤ g.O.Sink.faults l.out;
}
