use Rattle.std.proofs.Common.{ℕ, ◌≡◌, ◌+◌, ◌∙◌, true, take, sym, subst, ap, arith}
use Rattle.std.specs.Prelude.{map, string_bytes}
use Rattle.std.proofs.Math.ListN.{set}
use Rattle.mrs_model.specs.Views.{predication_of}
use Rattle.mrs_transfer.specs.Inner.Present.{place_of, ArePresent}
use Rattle.mrs_transfer.proofs.Absent.{present_more}
use Rattle.mrs_transfer.proofs.present.Present.new.Goals as goal

pub loop-ep-preserved : goal.loop-ep-preserved
loop-ep-preserved c =
    let e : c.place_of.result ≡ place_of (string_bytes c.ep-item.result.pred) = c.place_of.ensures.place ∙ ap place_of c.as_str.ensures.value in
    subst (λ (k : ℕ). ArePresent (set c.loop-ep.places.items k true) (map predication_of (take (c.loop-ep.ep-index + 1) c.args.eps.now))) (sym e)
    (present_more predication_of c.args.eps.now c.loop-ep.ep-index c.ep-item.result c.loop-ep.places.items (omega arith) c.ep-item.is (omega (arith, e, c.place_of.ensures.within, c.loop-ep.invariant.size)) c.loop-ep.invariant)
