use Rattle.std.proofs.Common.{ℕ, ◌≡◌, ◌<◌, length}
use Rattle.std.specs.Prelude.{slice_index}
use Rattle.mrs_text.specs.Written.{place_of, or_zero}
use Rattle.mrs_text.proofs.seen.Seen.numbers.Given as goal

abbrev pub invariant-loop-v : goal.invariant-loop-v
invariant-loop-v l = record {
  size : length l.out.items ≡ l.v;
  each : (w : ℕ) → w < length l.out.items → slice_index l.out.items w ≡ or_zero (place_of w l.fn.self.order);
}
