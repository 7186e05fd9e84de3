use Rattle.fs_closing.specs.Systems.{rules_of}
use Rattle.fs_closing.specs.Inner.RuleRows.{HaveOwn}
use Rattle.fs_closing.proofs.rule_rows.owners.Given as goal

abbrev pub invariant-loop-j : goal.invariant-loop-j
invariant-loop-j l = HaveOwn (rules_of l.constraints) l.j l.count l.own.items
