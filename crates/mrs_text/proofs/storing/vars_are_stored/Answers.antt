use Rattle.mrs_model.specs.Views.{variable_of}
use Rattle.mrs_text.specs.Stored.{IsStoredVariable}
use Rattle.mrs_text.proofs.Looking.{all_more, all_seen}
use Rattle.mrs_text.proofs.storing.vars_are_stored.Goals as goal

pub loop-k-preserved : goal.loop-k-preserved
loop-k-preserved c = all_more variable_of IsStoredVariable c.args.vars.now c.loop-k.k c.index-vars-k.result c.loop-k-test.true c.index-vars-k.is c.loop-k.invariant c.var_is_stored.ensures

pub returns : goal.returns
returns c = all_seen variable_of IsStoredVariable c.args.vars.now c.loop-k.k c.loop-k-test.false c.loop-k.invariant
