use Rattle.transfer_rules.proofs.Ending.{all_differ}
use Rattle.transfer_rules.proofs.features.differ_in_name.Goals as goal

pub returns : goal.returns
returns c = all_differ c.args.features.now c.loop-i.i c.loop-i-test.false c.loop-i.invariant
