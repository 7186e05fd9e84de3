use Rattle.std.proofs.Common.{◌≡◌, ◌++◌, map, drop}
use Rattle.transfer_model.specs.Views.{rule_of}
use Rattle.transfer_commands.specs.Inner.{skipped_in}
use Rattle.transfer_commands.proofs.skipping.skipped_in.Given as goal

abbrev pub invariant-loop-rule : goal.invariant-loop-rule
invariant-loop-rule l =
    l.skipped.items ++ skipped_in l.set.keys (map rule_of (drop l.rule-index l.all)) ≡ skipped_in l.set.keys (map rule_of l.all)
