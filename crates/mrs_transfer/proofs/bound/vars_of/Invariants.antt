use Rattle.std.proofs.Common.{◌≡◌, ℕ, ◌<◌, length, slice_index}
use Rattle.std.specs.Prelude.{Contains}
use Rattle.mrs_transfer.proofs.bound.vars_of.Given as goal

abbrev pub invariant-loop-at : goal.invariant-loop-at
invariant-loop-at l = record {
  size : length l.vars.items ≡ l.at;
  each : (c : ℕ) → c < l.at → Contains l.pairs (record { coref = c; var = slice_index l.vars.items c });
}
