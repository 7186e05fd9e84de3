use Rattle.std.proofs.Common.{◌<◌, ◌∙◌, length, arith}
use Rattle.transfer_commands.proofs.SkipLemmas.{rule-taken}
use Rattle.transfer_commands.proofs.skipping.skipped_in.Goals as goal

pub loop-rule-preserved : goal.loop-rule-preserved
loop-rule-preserved c =
    let all = c.rules-all.result.now in
    let i = c.loop-rule.rule-index in
    let within : i < length all = omega arith in
    rule-taken c.args.set.now.keys all i c.rule-item.result c.as_str.result.now c.contains.result c.loop-rule.skipped.items c.push.new.self.items within c.rule-item.is c.as_str.ensures.value c.contains.ensures c.in_ok-push.ensures.items ∙ c.loop-rule.invariant
