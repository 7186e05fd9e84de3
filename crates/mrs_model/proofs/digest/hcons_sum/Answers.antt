use Rattle.std.proofs.Common.{refl}
use Rattle.mrs_model.specs.Views.{hcon_of}
use Rattle.mrs_model.specs.Digest.{hcon_key}
use Rattle.mrs_model.proofs.Sums.{sum_more, sum_all}
use Rattle.mrs_model.proofs.digest.hcons_sum.Goals as goal

pub loop-hcon-preserved : goal.loop-hcon-preserved
loop-hcon-preserved c = sum_more hcon_of hcon_key c.args.hcons.now c.loop-hcon.hcon-index c.hcon-item.result _ _ _ c.loop-hcon-test.true c.hcon-item.is c.loop-hcon.invariant c.hcon_key-sum.ensures refl

pub returns : goal.returns
returns c = sum_all hcon_of hcon_key c.args.hcons.now c.loop-hcon.hcon-index _ c.loop-hcon-test.false c.loop-hcon.invariant
