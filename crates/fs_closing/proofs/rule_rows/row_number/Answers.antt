use Rattle.fs_closing.specs.Systems.{rules_of}
use Rattle.fs_closing.proofs.RuleRowLemmas.{shared_kept}
use Rattle.fs_closing.proofs.rule_rows.row_number.Goals as goal

pub returns-clause-shared : goal.returns-clause-shared
returns-clause-shared c =
    shared_kept c.args.types.now (rules_of c.args.constraints.now) _ _ _ _ c.args.rows.now.shared c.in_ok-number-2.ensures c.requires.shared
