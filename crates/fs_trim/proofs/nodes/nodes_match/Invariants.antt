use Rattle.std.proofs.Common.{ℕ, ◌≡◌, ◌<◌, slice_index}
use Rattle.fs_trim.specs.Matching.{IsSeen, IsMatched}
use Rattle.fs_trim.proofs.nodes.nodes_match.Given as goal

abbrev pub invariant-loop-n : goal.invariant-loop-n
invariant-loop-n l =
    record {
      seen : IsSeen l.general l.special l.marks;
      root : slice_index l.marks 0 ≡ 0;
      matched : (k : ℕ) → k < l.n → IsMatched l.types l.general l.special l.marks k;
    }
