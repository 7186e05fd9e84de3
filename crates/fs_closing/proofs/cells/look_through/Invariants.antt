use Rattle.std.proofs.Common.{◌≡◌, ◌≤◌, length}
use Rattle.fs_closing.specs.Cells.{chain, find_arc}
use Rattle.fs_closing.proofs.cells.look_through.Given as goal

abbrev pub invariant-loop-place : goal.invariant-loop-place
invariant-loop-place l =
    record { same : find_arc (chain l.cells l.place) l.feat ≡ find_arc (chain l.fn.cells l.fn.first) l.fn.feat; within : l.place ≤ length l.cells }

abbrev pub decreases-loop-place : goal.decreases-loop-place
decreases-loop-place l = l.place
