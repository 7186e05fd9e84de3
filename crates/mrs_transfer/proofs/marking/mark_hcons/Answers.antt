use Rattle.std.proofs.Common.{ℕ, ◌<◌, length, sym, subst, arith}
use Rattle.mrs_model.specs.Valid.{IsConstraint, IsEnd}
use Rattle.mrs_model.specs.Views.{hcon_of}
use Rattle.mrs_transfer.proofs.Growing.{holds_at}
use Rattle.mrs_transfer.proofs.Marks.{marked_on, marked_end}
use Rattle.mrs_transfer.proofs.marking.mark_hcons.Goals as goal

pub mark_ends-requires-clause-left : goal.mark_ends-requires-clause-left
mark_ends-requires-clause-left c =
    let h = holds_at hcon_of (IsConstraint (length c.args.marks.now)) c.args.hcons.now c.loop-hcon.hcon-index c.hcon-item.result (omega arith) c.hcon-item.is c.requires in
    subst (λ (n : ℕ). c.hcon-item.result.high < n) (sym c.loop-hcon.invariant.size) h.left

pub mark_ends-requires-clause-right : goal.mark_ends-requires-clause-right
mark_ends-requires-clause-right c =
    let h = holds_at hcon_of (IsConstraint (length c.args.marks.now)) c.args.hcons.now c.loop-hcon.hcon-index c.hcon-item.result (omega arith) c.hcon-item.is c.requires in
    subst (λ (n : ℕ). c.hcon-item.result.low < n) (sym c.loop-hcon.invariant.size) h.right

pub loop-hcon-preserved : goal.loop-hcon-preserved
loop-hcon-preserved c =
    marked_on hcon_of IsEnd c.args.hcons.now c.loop-hcon.hcon-index c.hcon-item.result c.args.marks.now c.loop-hcon.marks c.mark_ends.new.marks (omega arith) c.hcon-item.is c.loop-hcon.invariant c.mark_ends.ensures

pub returns : goal.returns
returns c = marked_end hcon_of IsEnd c.args.hcons.now c.loop-hcon.hcon-index c.args.marks.now c.loop-hcon.marks (omega arith) c.loop-hcon.invariant
