use Rattle.mrs_model.specs.Views.{icon_of}
use Rattle.mrs_text.specs.Stored.{IsStoredConstraint}
use Rattle.mrs_text.proofs.Looking.{all_more, all_seen}
use Rattle.mrs_text.proofs.storing.icons_are_stored.Goals as goal

pub loop-k-preserved : goal.loop-k-preserved
loop-k-preserved c = all_more icon_of IsStoredConstraint c.args.icons.now c.loop-k.k c.index-icons-k.result c.loop-k-test.true c.index-icons-k.is c.loop-k.invariant c.icon_is_stored.ensures

pub returns : goal.returns
returns c = all_seen icon_of IsStoredConstraint c.args.icons.now c.loop-k.k c.loop-k-test.false c.loop-k.invariant
