use Rattle.std.specs.Prelude.{ℕ, ◌≡◌, ◌≤◌, ◌<◌, length, take, slice_index}
use Rattle.mrs_transfer.specs.Inner.Trimming.{kept_by}
use Rattle.mrs_transfer.proofs.trimming.numbers_left.Given as goal

abbrev pub invariant-loop-mark : goal.invariant-loop-mark
invariant-loop-mark l = record {
  size : length l.to.items ≡ l.mark-index;
  next : l.next ≡ length (kept_by (take l.mark-index l.marks));
  few : l.next ≤ l.mark-index;
  numbers : (v : ℕ) → v < l.mark-index → slice_index l.to.items v ≡ length (kept_by (take v l.marks));
}
