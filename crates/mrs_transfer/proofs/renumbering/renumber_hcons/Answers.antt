use Rattle.std.proofs.Common.{length, arith}
use Rattle.mrs_model.specs.Valid.{IsConstraint}
use Rattle.mrs_model.specs.Views.{hcon_of}
use Rattle.mrs_model.specs.Renaming.{renamed_constraint}
use Rattle.mrs_transfer.proofs.Images.{image_holds_at, image_more_at, image_all}
use Rattle.mrs_transfer.proofs.renumbering.renumber_hcons.Goals as goal

pub renumber_hcon-requires : goal.renumber_hcon-requires
renumber_hcon-requires c =
    image_holds_at hcon_of (renamed_constraint c.args.to.now) (IsConstraint (length c.args.to.now)) c.args.hcons.now c.loop-hcon.hcons c.loop-hcon.hcon-index c.hcon-item.result (omega arith) c.loop-hcon.invariant c.requires

pub loop-hcon-preserved : goal.loop-hcon-preserved
loop-hcon-preserved c =
    image_more_at hcon_of (renamed_constraint c.args.to.now) c.args.hcons.now c.loop-hcon.hcons c.loop-hcon.hcon-index c.hcon-item.result c.renumber_hcon.new.hcon (omega arith) c.loop-hcon.invariant c.renumber_hcon.ensures

pub returns : goal.returns
returns c = image_all hcon_of (renamed_constraint c.args.to.now) c.args.hcons.now c.loop-hcon.hcons c.loop-hcon.hcon-index (omega arith) c.loop-hcon.invariant c.loop-hcon.auto.hcons
