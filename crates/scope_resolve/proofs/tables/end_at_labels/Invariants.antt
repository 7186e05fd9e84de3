use Rattle.std.proofs.Common.{◌≡◌, take, true, false}
use Rattle.std.specs.Prelude.{Contains, slice_index_or}
use Rattle.scope_model.specs.declared.Qeq.{Qeq}
use Rattle.scope_resolve.proofs.tables.end_at_labels.Given as goal

abbrev pub invariant-loop-k : goal.invariant-loop-k
invariant-loop-k l = (c : Qeq) → Contains (take l.k l.qeqs) c → slice_index_or l.is_label c.right false ≡ true
