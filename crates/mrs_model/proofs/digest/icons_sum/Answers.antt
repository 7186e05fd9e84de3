use Rattle.std.proofs.Common.{refl}
use Rattle.mrs_model.specs.Views.{icon_of}
use Rattle.mrs_model.specs.Digest.{icon_key}
use Rattle.mrs_model.proofs.Sums.{sum_more, sum_all}
use Rattle.mrs_model.proofs.digest.icons_sum.Goals as goal

pub loop-icon-preserved : goal.loop-icon-preserved
loop-icon-preserved c = sum_more icon_of icon_key c.args.icons.now c.loop-icon.icon-index c.icon-item.result _ _ _ c.loop-icon-test.true c.icon-item.is c.loop-icon.invariant c.icon_key-sum.ensures refl

pub returns : goal.returns
returns c = sum_all icon_of icon_key c.args.icons.now c.loop-icon.icon-index _ c.loop-icon-test.false c.loop-icon.invariant
