-- What is looked at before the search.
use Rattle.std.proofs.Common.{ℕ, ◌≡◌, ◌⊎◌, inl, inr, List, sym, ◌∙◌, ap, subst, arith}
use Rattle.std.specs.Prelude.{Contains, All}
use Rattle.scope_model.specs.declared.Qeq.{Qeq}
use Rattle.scope_model.specs.Frames.{Frame}
use Rattle.scope_model.specs.Readings.{Plugged, IsLabel, IsHole, holes_of, label_at, Begins, at_hole, at_label, at_top, Holds, IsReading}
use Rattle.scope_model.proofs.Lists.{In, in_of}
use Rattle.scope_model.proofs.Under.{led_some}
use Rattle.scope_model.proofs.Whole.{opening_at}

-- a TOP that is a hole and no label would be led to
pub top_none : (f : Frame) (p : Plugged) → IsReading f p → (IsLabel f f.top → ⊥) → IsHole f f.top → ⊥
top_none f p r never is =
    let o = opening_at f.openings f.top (in_of (holes_of f) f.top is) in
    let n = led_some p p.top f.openings o.0 o.1 (ap (label_at p) o.2 ∙ sym (r.top.hole never is)) in
    let z = r.tree.root in
    omega (arith, n, z)

pub holds_at : (f : Frame) (p : Plugged) → IsReading f p → (c : Qeq) → Contains f.qeqs c → Holds f p c
holds_at f p r c i = subst (Holds f p) i.2 (r.qeqs i.0 c i.1)

begins_at : (f : Frame) (p : Plugged) (v from : ℕ) → Begins f p v from → IsHole f v ⊎ (IsLabel f v ⊎ (v ≡ f.top))
begins_at f p v _ (at_hole is) = inl is
begins_at f p v _ (at_label is) = inr (inl is)
begins_at f p v _ (at_top e a b) = inr (inr e)

pub left_at : (f : Frame) (p : Plugged) → IsReading f p → (c : Qeq) → Contains f.qeqs c → IsHole f c.left ⊎ (IsLabel f c.left ⊎ (c.left ≡ f.top))
left_at f p r c i = let h = holds_at f p r c i in begins_at f p c.left h.from h.begins
