use Rattle.std.proofs.Common.{ℕ, length, sym, subst, arith}
use Rattle.mrs_model.specs.Valid.{IsArgument}
use Rattle.mrs_model.specs.Views.{argument_of}
use Rattle.mrs_transfer.proofs.Growing.{holds_at}
use Rattle.mrs_transfer.proofs.Marks.{marked_on, marked_end}
use Rattle.mrs_transfer.proofs.Renumbered.{Fills}
use Rattle.mrs_transfer.proofs.marking.mark_roles.Goals as goal

pub mark_role-requires : goal.mark_role-requires
mark_role-requires c =
    subst (λ (n : ℕ). IsArgument n (argument_of c.role-item.result)) (sym c.loop-role.invariant.size)
    (holds_at argument_of (IsArgument (length c.args.marks.now)) c.args.roles.now c.loop-role.role-index c.role-item.result (omega arith) c.role-item.is c.requires)

pub loop-role-preserved : goal.loop-role-preserved
loop-role-preserved c =
    marked_on argument_of Fills c.args.roles.now c.loop-role.role-index c.role-item.result c.args.marks.now c.loop-role.marks c.mark_role.new.marks (omega arith) c.role-item.is c.loop-role.invariant c.mark_role.ensures

pub returns : goal.returns
returns c = marked_end argument_of Fills c.args.roles.now c.loop-role.role-index c.args.marks.now c.loop-role.marks (omega arith) c.loop-role.invariant
