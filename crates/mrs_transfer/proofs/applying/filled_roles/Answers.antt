use Rattle.std.proofs.Common.{length, arith}
use Rattle.mrs_model.specs.Valid.{IsArgument}
use Rattle.mrs_model.specs.Views.{argument_of}
use Rattle.mrs_transfer.proofs.Growing.{holds_at}
use Rattle.mrs_transfer.proofs.applying.filled_roles.Goals as goal

pub filled_role-requires : goal.filled_role-requires
filled_role-requires c = holds_at argument_of (IsArgument (length c.args.vars.now)) c.args.roles.now c.loop-role.role-index c.role-item.result (omega arith) c.role-item.is c.requires
