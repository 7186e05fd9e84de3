use Rattle.mrs_model.specs.Views.{hcon_of}
use Rattle.mrs_text.specs.Stored.{IsStoredConstraint}
use Rattle.mrs_text.proofs.Looking.{all_more, all_seen}
use Rattle.mrs_text.proofs.storing.hcons_are_stored.Goals as goal

pub loop-k-preserved : goal.loop-k-preserved
loop-k-preserved c = all_more hcon_of IsStoredConstraint c.args.hcons.now c.loop-k.k c.index-hcons-k.result c.loop-k-test.true c.index-hcons-k.is c.loop-k.invariant c.hcon_is_stored.ensures

pub returns : goal.returns
returns c = all_seen hcon_of IsStoredConstraint c.args.hcons.now c.loop-k.k c.loop-k-test.false c.loop-k.invariant
