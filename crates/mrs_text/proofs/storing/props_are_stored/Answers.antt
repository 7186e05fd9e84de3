use Rattle.mrs_model.specs.Views.{property_of}
use Rattle.mrs_text.specs.Stored.{IsStoredProperty}
use Rattle.mrs_text.proofs.Looking.{all_more, all_seen}
use Rattle.mrs_text.proofs.storing.props_are_stored.Goals as goal

pub loop-k-preserved : goal.loop-k-preserved
loop-k-preserved c = all_more property_of IsStoredProperty c.args.props.now c.loop-k.k c.index-props-k.result c.loop-k-test.true c.index-props-k.is c.loop-k.invariant c.prop_is_stored.ensures

pub returns : goal.returns
returns c = all_seen property_of IsStoredProperty c.args.props.now c.loop-k.k c.loop-k-test.false c.loop-k.invariant
