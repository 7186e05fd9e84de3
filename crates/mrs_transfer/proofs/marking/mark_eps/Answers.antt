use Rattle.std.proofs.Common.{ℕ, length, sym, subst, arith}
use Rattle.mrs_model.specs.Valid.{IsPredication, StandsIn}
use Rattle.mrs_model.specs.Views.{predication_of}
use Rattle.mrs_transfer.proofs.Growing.{holds_at}
use Rattle.mrs_transfer.proofs.Marks.{marked_on, marked_end}
use Rattle.mrs_transfer.proofs.marking.mark_eps.Goals as goal

pub mark_ep-requires : goal.mark_ep-requires
mark_ep-requires c =
    subst (λ (n : ℕ). IsPredication n (predication_of c.ep-item.result)) (sym c.loop-ep.invariant.size)
    (holds_at predication_of (IsPredication (length c.args.marks.now)) c.args.eps.now c.loop-ep.ep-index c.ep-item.result (omega arith) c.ep-item.is c.requires)

pub loop-ep-preserved : goal.loop-ep-preserved
loop-ep-preserved c =
    marked_on predication_of StandsIn c.args.eps.now c.loop-ep.ep-index c.ep-item.result c.args.marks.now c.loop-ep.marks c.mark_ep.new.marks (omega arith) c.ep-item.is c.loop-ep.invariant c.mark_ep.ensures

pub returns : goal.returns
returns c = marked_end predication_of StandsIn c.args.eps.now c.loop-ep.ep-index c.args.marks.now c.loop-ep.marks (omega arith) c.loop-ep.invariant
