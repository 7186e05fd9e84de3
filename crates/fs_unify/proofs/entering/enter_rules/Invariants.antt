use Rattle.std.proofs.Common.{ℕ, ◌≡◌, ◌<◌, true, length, take, slice_index_or}
use Rattle.std.specs.Prelude.{if◌then◌else◌}
use Rattle.fs_model.specs.Claims.{Claim, Has}
use Rattle.fs_model.specs.Table.{Follows, from}
use Rattle.fs_closing.specs.NodeTable.{table_of, AreFlat}
use Rattle.fs_closing.specs.Rules.{no_rule, system_of}
use Rattle.fs_closing.specs.Work.{work_of}
use Rattle.fs_closing.specs.Keeps.{AreSound}
use Rattle.fs_unify.specs.Debts.{IsPaidBy}
use Rattle.fs_unify.specs.Entering.{Carries}
use Rattle.fs_unify.specs.Owing.{OwedFacts, ListsOwed, debts_at}
use Rattle.fs_unify.proofs.entering.enter_rules.Given as goal

abbrev pub invariant-loop-rule : goal.invariant-loop-rule
invariant-loop-rule l =
    record {
      carries : Carries (system_of l.system) (table_of l.fn.nodes) (work_of l.system.rules l.fn.tasks) (table_of l.nodes) (work_of l.system.rules l.tasks);
      sound : AreSound l.system l.nodes l.tasks;
      flat : AreFlat l.fn.nodes → AreFlat l.nodes;
      paid : (facts : OwedFacts) (i j : ℕ) (c : Claim) → ListsOwed l.system facts l.owed → Has i (take l.rule-index l.rule-items) →
          IsPaidBy l.system (debts_at l.owed l.is_root) i j → j < length l.system.rules → Has c (slice_index_or l.system.rules j no_rule).claims →
          (if l.is_root then facts.at_root else facts.further) c ≡ true →
          Follows (system_of l.system) (table_of l.nodes) (work_of l.system.rules l.tasks) (from l.node c);
    }
