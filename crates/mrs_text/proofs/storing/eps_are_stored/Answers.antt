use Rattle.mrs_model.specs.Views.{predication_of}
use Rattle.mrs_text.specs.Stored.{IsStoredPredication}
use Rattle.mrs_text.proofs.Looking.{all_more, all_seen}
use Rattle.mrs_text.proofs.storing.eps_are_stored.Goals as goal

pub loop-k-preserved : goal.loop-k-preserved
loop-k-preserved c = all_more predication_of IsStoredPredication c.args.eps.now c.loop-k.k c.index-eps-k.result c.loop-k-test.true c.index-eps-k.is c.loop-k.invariant c.ep_is_stored.ensures

pub returns : goal.returns
returns c = all_seen predication_of IsStoredPredication c.args.eps.now c.loop-k.k c.loop-k-test.false c.loop-k.invariant
