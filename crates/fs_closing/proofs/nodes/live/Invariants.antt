use Rattle.std.proofs.Common.{◌≡◌, ◌<◌}
use Rattle.fs_closing.specs.Marked.{chase, next_by}
use Rattle.fs_closing.specs.NodeTable.{at_of, table_of}
use Rattle.fs_closing.proofs.nodes.live.Given as goal

abbrev pub invariant-loop-left : goal.invariant-loop-left
invariant-loop-left l =
    record {
      same : chase (λ n. next_by n (at_of l.nodes n)) l.left l.at ≡ (table_of l.fn.nodes).live l.fn.n;
      within : l.at < l.nodes.size;
    }

abbrev pub decreases-loop-left : goal.decreases-loop-left
decreases-loop-left l = l.left
