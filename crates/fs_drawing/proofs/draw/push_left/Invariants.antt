use Rattle.std.proofs.Common.{◌≡◌, length, take}
use Rattle.fs_drawing.specs.Drawing.{leaves_of, AreNumbered, MeetsEnds, AddsLeft}
use Rattle.fs_drawing.proofs.draw.push_left.Given as goal

abbrev pub invariant-loop-arc : goal.invariant-loop-arc
invariant-loop-arc l =
    record {
      arcs : AddsLeft l.met.nodes.items (leaves_of l.off l.is_root) (take l.arc-index l.row) l.fn.arcs.items l.arcs.items;
      meets : MeetsEnds l.row l.fn.met.nodes.items l.met.nodes.items;
      numbered : AreNumbered l.met.numbers l.met.nodes.items;
      room : length l.met.numbers ≡ length l.fn.met.numbers;
    }
