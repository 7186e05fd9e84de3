use Rattle.std.proofs.Common.{◌≡◌, ℕ, ◌<◌, length, slice_index, slice_index_or}
use Rattle.mrs_transfer.specs.declared.bound.Pair.{Pair}
use Rattle.mrs_transfer.proofs.bound.given_pairs.Given as goal

abbrev pub invariant-loop-at : goal.invariant-loop-at
invariant-loop-at l = record {
  size : length l.pairs.items ≡ l.at;
  each : (c : ℕ) (p : Pair) → c < l.at → slice_index_or l.pairs.items c p ≡ record { coref = c; var = slice_index l.vars c };
}
