use Rattle.std.proofs.Common.{map}
use Rattle.fs_closing.specs.Systems.{rules_of}
use Rattle.fs_closing.specs.Inner.RuleRows.{HaveRows, IsShared}
use Rattle.fs_closing.proofs.rule_rows.rule_rows.Given as goal

abbrev pub invariant-loop-t : goal.invariant-loop-t
invariant-loop-t l =
    record {
      have : HaveRows l.types (rules_of l.constraints) (map (λ row. row.items) l.rows.list.items) l.row_of.items l.t;
      shared : IsShared l.types (rules_of l.constraints) (map (λ row. row.items) l.rows.list.items) l.rows.shared;
    }
