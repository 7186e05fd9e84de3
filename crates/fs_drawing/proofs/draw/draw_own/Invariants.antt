use Rattle.std.proofs.Common.{◌≡◌, ◌++◌, take}
use Rattle.fs_closing.specs.NodeTable.{table_of, own_row}
use Rattle.fs_drawing.specs.Drawing.{ended_row}
use Rattle.fs_drawing.proofs.draw.draw_own.Given as goal

abbrev pub invariant-loop-i : goal.invariant-loop-i
invariant-loop-i l =
    record { drawn : l.arcs.items ≡ l.fn.arcs.items ++ ended_row (table_of l.nodes).live (take l.i (own_row l.nodes l.n)) }
