use Rattle.std.proofs.Common.{◌≤◌, length}
use Rattle.fs_closing.proofs.cells.are_many.Given as goal

abbrev pub invariant-loop : goal.invariant-loop
invariant-loop l = l.place ≤ length l.cells
