use Rattle.std.proofs.Common.{ℕ, ◌<◌, length, take}
use Rattle.fs_closing.specs.Work.{work_of, AreReady}
use Rattle.fs_closing.proofs.StepLemmas.{TakesRules}
use Rattle.fs_closing.proofs.steps.push_rules.Given as goal

abbrev pub invariant-loop-rule : goal.invariant-loop-rule
invariant-loop-rule l =
    record {
      takes : TakesRules l.system l.node l.old l.other (take l.rule-index l.rule-items) (work_of l.system.rules l.fn.tasks) (work_of l.system.rules l.tasks);
      ready : (size types : ℕ) → l.node < size → AreReady size types (length l.system.rules) l.fn.tasks → AreReady size types (length l.system.rules) l.tasks;
    }
