use Rattle.std.proofs.Common.{ℕ, ◌<◌, take}
use Rattle.type_hierarchy.specs.Table.{count_of}
use Rattle.fs_closing.specs.Rules.{system_of}
use Rattle.fs_closing.specs.Joined.{IsJoined}
use Rattle.fs_closing.specs.Work.{work_of, AreReady}
use Rattle.fs_unify.specs.Entering.{introducer_claims}
use Rattle.fs_unify.proofs.entering.push_introducers.Given as goal

abbrev pub invariant-loop-arc : goal.invariant-loop-arc
invariant-loop-arc l =
    record {
      joined : IsJoined (introducer_claims (system_of l.system) l.node (take l.arc-index l.arcs)) (work_of l.system.rules l.fn.tasks) (work_of l.system.rules l.tasks);
      ready : (size rules : ℕ) → l.node < size → AreReady size (count_of l.system.types) rules l.fn.tasks → AreReady size (count_of l.system.types) rules l.tasks;
    }
