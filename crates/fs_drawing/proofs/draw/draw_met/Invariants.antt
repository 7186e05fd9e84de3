use Rattle.fs_closing.specs.NodeTable.{table_of}
use Rattle.fs_drawing.specs.Drawing.{leaves_of, DrawsMet}
use Rattle.fs_drawing.proofs.draw.draw_met.Given as goal

abbrev pub invariant-loop-k : goal.invariant-loop-k
invariant-loop-k l = record { drawn : DrawsMet (table_of l.nodes) (leaves_of l.off) l.k l.picture }
