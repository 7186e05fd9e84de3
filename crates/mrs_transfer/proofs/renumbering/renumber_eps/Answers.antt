use Rattle.std.proofs.Common.{length, arith}
use Rattle.mrs_model.specs.Valid.{IsPredication}
use Rattle.mrs_model.specs.Views.{predication_of}
use Rattle.transfer_model.specs.Applying.{renumbered}
use Rattle.mrs_transfer.proofs.Images.{image_holds_at, image_more_at, image_all}
use Rattle.mrs_transfer.proofs.renumbering.renumber_eps.Goals as goal

pub renumber_ep-requires : goal.renumber_ep-requires
renumber_ep-requires c =
    image_holds_at predication_of (renumbered c.args.to.now) (IsPredication (length c.args.to.now)) c.args.eps.now c.loop-ep.eps c.loop-ep.ep-index c.ep-item.result (omega arith) c.loop-ep.invariant c.requires

pub loop-ep-preserved : goal.loop-ep-preserved
loop-ep-preserved c =
    image_more_at predication_of (renumbered c.args.to.now) c.args.eps.now c.loop-ep.eps c.loop-ep.ep-index c.ep-item.result c.renumber_ep.new.ep (omega arith) c.loop-ep.invariant c.renumber_ep.ensures

pub returns : goal.returns
returns c = image_all predication_of (renumbered c.args.to.now) c.args.eps.now c.loop-ep.eps c.loop-ep.ep-index (omega arith) c.loop-ep.invariant c.loop-ep.auto.eps
