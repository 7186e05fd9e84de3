use Rattle.std.proofs.Common.{length, arith}
use Rattle.mrs_model.specs.Valid.{IsConstraint}
use Rattle.mrs_model.specs.Views.{icon_of}
use Rattle.mrs_model.specs.Renaming.{renamed_constraint}
use Rattle.mrs_transfer.proofs.Images.{image_holds_at, image_more_at, image_all}
use Rattle.mrs_transfer.proofs.renumbering.renumber_icons.Goals as goal

pub renumber_icon-requires : goal.renumber_icon-requires
renumber_icon-requires c =
    image_holds_at icon_of (renamed_constraint c.args.to.now) (IsConstraint (length c.args.to.now)) c.args.icons.now c.loop-icon.icons c.loop-icon.icon-index c.icon-item.result (omega arith) c.loop-icon.invariant c.requires

pub loop-icon-preserved : goal.loop-icon-preserved
loop-icon-preserved c =
    image_more_at icon_of (renamed_constraint c.args.to.now) c.args.icons.now c.loop-icon.icons c.loop-icon.icon-index c.icon-item.result c.renumber_icon.new.icon (omega arith) c.loop-icon.invariant c.renumber_icon.ensures

pub returns : goal.returns
returns c = image_all icon_of (renamed_constraint c.args.to.now) c.args.icons.now c.loop-icon.icons c.loop-icon.icon-index (omega arith) c.loop-icon.invariant c.loop-icon.auto.icons
