use Rattle.std.proofs.Common.{length, arith}
use Rattle.mrs_model.specs.Valid.{IsArgument}
use Rattle.mrs_model.specs.Views.{argument_of}
use Rattle.mrs_model.specs.Renaming.{renamed_argument}
use Rattle.mrs_transfer.proofs.Images.{image_holds_at, image_more_at, image_all}
use Rattle.mrs_transfer.proofs.renumbering.renumber_roles.Goals as goal

pub renumber_role-requires : goal.renumber_role-requires
renumber_role-requires c =
    image_holds_at argument_of (renamed_argument c.args.to.now) (IsArgument (length c.args.to.now)) c.args.roles.now c.loop-role.roles c.loop-role.role-index c.role-item.result (omega arith) c.loop-role.invariant c.requires

pub loop-role-preserved : goal.loop-role-preserved
loop-role-preserved c =
    image_more_at argument_of (renamed_argument c.args.to.now) c.args.roles.now c.loop-role.roles c.loop-role.role-index c.role-item.result c.renumber_role.new.role (omega arith) c.loop-role.invariant c.renumber_role.ensures

pub returns : goal.returns
returns c = image_all argument_of (renamed_argument c.args.to.now) c.args.roles.now c.loop-role.roles c.loop-role.role-index (omega arith) c.loop-role.invariant c.loop-role.auto.roles
