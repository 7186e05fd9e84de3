use Rattle.std.proofs.Common.{ℕ, ◌<◌, length, sym, subst, arith}
use Rattle.mrs_model.specs.Valid.{IsConstraint, IsEnd}
use Rattle.mrs_model.specs.Views.{icon_of}
use Rattle.mrs_transfer.proofs.Growing.{holds_at}
use Rattle.mrs_transfer.proofs.Marks.{marked_on, marked_end}
use Rattle.mrs_transfer.proofs.marking.mark_icons.Goals as goal

pub mark_ends-requires-clause-left : goal.mark_ends-requires-clause-left
mark_ends-requires-clause-left c =
    let h = holds_at icon_of (IsConstraint (length c.args.marks.now)) c.args.icons.now c.loop-icon.icon-index c.icon-item.result (omega arith) c.icon-item.is c.requires in
    subst (λ (n : ℕ). c.icon-item.result.left < n) (sym c.loop-icon.invariant.size) h.left

pub mark_ends-requires-clause-right : goal.mark_ends-requires-clause-right
mark_ends-requires-clause-right c =
    let h = holds_at icon_of (IsConstraint (length c.args.marks.now)) c.args.icons.now c.loop-icon.icon-index c.icon-item.result (omega arith) c.icon-item.is c.requires in
    subst (λ (n : ℕ). c.icon-item.result.right < n) (sym c.loop-icon.invariant.size) h.right

pub loop-icon-preserved : goal.loop-icon-preserved
loop-icon-preserved c =
    marked_on icon_of IsEnd c.args.icons.now c.loop-icon.icon-index c.icon-item.result c.args.marks.now c.loop-icon.marks c.mark_ends.new.marks (omega arith) c.icon-item.is c.loop-icon.invariant c.mark_ends.ensures

pub returns : goal.returns
returns c = marked_end icon_of IsEnd c.args.icons.now c.loop-icon.icon-index c.args.marks.now c.loop-icon.marks (omega arith) c.loop-icon.invariant
