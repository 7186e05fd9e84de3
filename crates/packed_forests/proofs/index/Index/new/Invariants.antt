use Rattle.std.proofs.Common.{◌≡◌, length, All, []}
use Rattle.packed_forests.proofs.index.Index.new.Given as goal

abbrev pub invariant-loop-slot : goal.invariant-loop-slot
invariant-loop-slot l = record { counted : length l.lists.items ≡ l._slot; empty : All (λ v. v.items ≡ []) l.lists.items }
