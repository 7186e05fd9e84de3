use Rattle.std.proofs.Common.{refl}
use Rattle.mrs_model.specs.Views.{predication_of}
use Rattle.mrs_model.specs.Digest.{ep_key}
use Rattle.mrs_model.proofs.Sums.{sum_more, sum_all}
use Rattle.mrs_model.proofs.digest.eps_sum.Goals as goal

pub loop-ep-preserved : goal.loop-ep-preserved
loop-ep-preserved c = sum_more predication_of ep_key c.args.eps.now c.loop-ep.ep-index c.ep-item.result _ _ _ c.loop-ep-test.true c.ep-item.is c.loop-ep.invariant c.ep_key-sum.ensures refl

pub returns : goal.returns
returns c = sum_all predication_of ep_key c.args.eps.now c.loop-ep.ep-index _ c.loop-ep-test.false c.loop-ep.invariant
