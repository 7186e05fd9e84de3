use Rattle.mrs_model.specs.Views.{argument_of}
use Rattle.mrs_text.specs.Stored.{IsStoredArgument}
use Rattle.mrs_text.proofs.Looking.{all_more, all_seen}
use Rattle.mrs_text.proofs.storing.roles_are_stored.Goals as goal

pub loop-k-preserved : goal.loop-k-preserved
loop-k-preserved c = all_more argument_of IsStoredArgument c.args.roles.now c.loop-k.k c.index-roles-k.result c.loop-k-test.true c.index-roles-k.is c.loop-k.invariant c.role_is_stored.ensures

pub returns : goal.returns
returns c = all_seen argument_of IsStoredArgument c.args.roles.now c.loop-k.k c.loop-k-test.false c.loop-k.invariant
