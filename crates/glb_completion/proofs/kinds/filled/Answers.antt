use Rattle.std.proofs.Common.{◌+◌, ℕ, length, ap, subst, sym, arith, Vec}
use Rattle.std.specs.Global.{Global}
use Rattle.glb_completion.proofs.KindLemmas.{HasPlacesTo, places_more, places_same}
use Rattle.glb_completion.proofs.kinds.filled.Goals as goal
use Rattle.glb_completion.proofs.kinds.filled.Goals.{then-row-i-ne0+in_ok-push, else-row-i-ne0}

pub loop-i-init : goal.loop-i-init
loop-i-init c = record { within = λ k d l. absurd (omega (arith, l, ap length c.new-places.ensures.items)); each = λ x l s. absurd (omega arith) }

pub loop-i-preserved : goal.loop-i-preserved
loop-i-preserved c = elim c.if-row-i-ne0.branch [
  | then-row-i-ne0+in_ok-push w ↦ subst (λ (v : Vec ℕ Global). HasPlacesTo c.args.row.now v.items (c.loop-i.i + 1)) (sym w.places-is)
      (places_more c.args.row.now c.loop-i.places.items w.push.new.self.items c.loop-i.i (omega arith) c.loop-i.invariant w.in_ok-push.ensures.items)
  | else-row-i-ne0 w ↦ subst (λ (v : Vec ℕ Global). HasPlacesTo c.args.row.now v.items (c.loop-i.i + 1)) (sym w.places-is)
      (places_same c.args.row.now c.loop-i.places.items c.loop-i.i w.if-row-i-ne0.false c.loop-i.invariant)
]
