use Rattle.std.proofs.Common.{take}
use Rattle.std.specs.Prelude.{Contains}
use Rattle.mrs_model.specs.declared.Hcon.{Hcon}
use Rattle.scope_resolve.proofs.Resolves.{Qeq_at}
use Rattle.scope_resolve.proofs.resolving.first_other.Given as goal

abbrev pub invariant-loop-k : goal.invariant-loop-k
invariant-loop-k l = (h : Hcon) → Contains (take l.k l.hcons) h → Qeq_at h
