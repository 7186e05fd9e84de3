use Rattle.fs_closing.specs.Systems.{rules_of}
use Rattle.fs_closing.proofs.RuleRowLemmas.{rows_more}
use Rattle.fs_closing.proofs.rule_rows.rule_rows.Goals as goal

pub loop-t-preserved : goal.loop-t-preserved
loop-t-preserved c =
    record {
      have = rows_more c.args.types.now (rules_of c.args.constraints.now) _ _ c.loop-t.row_of.items c.push.new.self.items _ c.loop-t.t c.loop-t.invariant.have
          c.in_ok-number.ensures.row c.in_ok-push.ensures.items;
      shared = c.in_ok-number.ensures.shared;
    }
