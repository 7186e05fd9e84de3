use Rattle.std.specs.Prelude.{ℕ, ◌<◌, ◌≤◌, Contains, slice_index}
use Rattle.mrs_transfer.proofs.applying.least.Given as goal

abbrev pub invariant-loop-place : goal.invariant-loop-place
invariant-loop-place l = record {
  among : Contains l.places l.least;
  least : (k : ℕ) → k < l.place-index → l.least ≤ slice_index l.places k;
}
