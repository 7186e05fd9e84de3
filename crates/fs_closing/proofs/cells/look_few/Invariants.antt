use Rattle.std.proofs.Common.{◌≡◌, ◌≤◌, length}
use Rattle.fs_closing.specs.Cells.{chain, find_arc}
use Rattle.fs_closing.proofs.cells.look_few.Given as goal

abbrev pub invariant-loop-left : goal.invariant-loop-left
invariant-loop-left l =
    record { same : find_arc (chain l.cells l.place) l.feat ≡ find_arc (chain l.fn.cells l.fn.first) l.fn.feat; within : l.place ≤ length l.cells }

abbrev pub decreases-loop-left : goal.decreases-loop-left
decreases-loop-left l = l.left
