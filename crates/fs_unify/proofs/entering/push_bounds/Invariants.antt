use Rattle.std.proofs.Common.{ℕ, ◌<◌, ◌+◌, List, take}
use Rattle.fs_model.specs.Claims.{Has}
use Rattle.fs_closing.specs.declared.tasks.Bound.{Bound}
use Rattle.fs_closing.specs.Rules.{Rule}
use Rattle.fs_closing.specs.Joined.{IsJoined}
use Rattle.fs_closing.specs.Work.{work_of, AreReady}
use Rattle.fs_unify.specs.Debts.{bound_claims}
use Rattle.fs_unify.proofs.entering.push_bounds.Given as goal

abbrev pub invariant-loop-bound : goal.invariant-loop-bound
invariant-loop-bound l =
    record {
      joined : (all : List Rule) → IsJoined (bound_claims l.offset (take l.bound-index l.bounds)) (work_of all l.fn.tasks) (work_of all l.tasks);
      ready : (size types count : ℕ) → ((b : Bound) → Has b l.bounds → (l.offset + b.node < size) × (b.ty < types)) → AreReady size types count l.fn.tasks →
          AreReady size types count l.tasks;
    }
