use Rattle.std.proofs.Common.{◌≡◌, ◌≤◌, ◌-◌, None, length, replicate}
use Rattle.fs_graph.proofs.lines.no_lines.Given as goal

abbrev pub invariant-nodes : goal.invariant-nodes
invariant-nodes l =
    record {
      none : l.firsts.items ≡ replicate (length l.firsts.items) None;
      within : length l.firsts.items ≤ l.nodes;
    }

abbrev pub decreases-nodes : goal.decreases-nodes
decreases-nodes l = l.nodes - length l.firsts.items
