use Rattle.std.proofs.Common.{ℕ, ◌≤◌, ◌<◌, length, slice_index}
use Rattle.fs_graph.specs.GraphMap.{arc_to, Rises}
use Rattle.fs_graph.specs.Visits.{targets_of}
use Rattle.fs_closing.specs.Cells.{chain, AreOnce}
use Rattle.fs_closing.specs.NodeTable.{table_of, row_of}
use Rattle.fs_drawing.proofs.DrawCells.{DrawsCells}
use Rattle.fs_drawing.proofs.draw.draw_cells.Given as goal

abbrev pub invariant-loop-place : goal.invariant-loop-place
invariant-loop-place l =
    record {
      draws : DrawsCells (table_of l.nodes).live (row_of l.nodes l.n) (chain l.nodes.cells l.place)
          (λ f. arc_to l.row.items f);
      once : AreOnce (chain l.nodes.cells l.place);
      rises : Rises l.row.items;
      to_in : (k : ℕ) → k < length l.row.items → slice_index (targets_of l.row.items) k < l.nodes.size;
      place_in : l.place ≤ length l.nodes.cells;
    }

abbrev pub decreases-loop-place : goal.decreases-loop-place
decreases-loop-place l = l.place
