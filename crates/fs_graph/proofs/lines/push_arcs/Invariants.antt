use Rattle.std.proofs.Common.{◌≡◌, ◌≤◌, ◌++◌, map, reverse, drop, length}
use Rattle.fs_graph.proofs.lines.push_arcs.Given as goal

abbrev pub invariant-loop-i : goal.invariant-loop-i
invariant-loop-i l =
    record {
      within : l.i ≤ length l.arcs;
      pushed : l.waiting.items ≡ l.fn.waiting.items ++ map (λ a. record { from = l.from; arc = a }) (reverse (drop l.i l.arcs));
    }

abbrev pub decreases-loop-i : goal.decreases-loop-i
decreases-loop-i l = l.i
