-- The open holes that a label may go under.
use Rattle.std.proofs.Common.{ℕ, ◌≡◌, ◌⊎◌, inl, inr, List, [], ◌∷◌, refl, sym, ◌∙◌, ap, subst}
use Rattle.std.specs.Prelude.{Contains}
use Rattle.scope_model.specs.declared.Opening.{Opening}
use Rattle.scope_model.specs.declared.Quantifier.{Quantifier}
use Rattle.scope_model.specs.Frames.{Frame}
use Rattle.scope_model.specs.declared.Plug.{Plug}
use Rattle.scope_model.specs.Readings.{Plugged, label_at, Leads, Below, at, down, Reaches, itself, by_body}
use Rattle.scope_model.specs.States.{State, IsPlaced, IsOpen, IsFromTop, Extends, IsLedOnce, GoesUnder, IsOnWay, IsByBodies, none, HasBodies}
use Rattle.scope_model.proofs.Lists.{In, in_of, contains_of}
use Rattle.scope_model.proofs.Under.{filled_or, one_opening, comparable, placed_above, open_unplaced, homes}
use Rattle.scope_model.proofs.Climb.{climb, bodies_more, body_step, below_reaches}

abbrev label_of : Opening → ℕ
label_of o = o.label

abbrev hole_of : Opening → ℕ
hole_of o = o.hole

module _ (f : Frame) (s : State) (p : Plugged) (led : IsLedOnce f p) (top : IsFromTop f s) (x : Extends s p) where
  -- what is above the label of an open hole is above the hole's own label
  owner_below : (o : Opening) → IsOpen f s o → (a m : ℕ) → m ≡ label_at p o.hole → IsPlaced s a → Below f p a m → Below f p a o.label
  owner_below o w _ _ e placed (at m) = absurd (open_unplaced f s p led top x o w (subst (IsPlaced s) e placed))
  owner_below o w a _ e placed (down _ n m u i) =
      let g : i.by ≡ o = one_opening f s p led top x i.by o m i.there w.there i.to (sym e) in
      subst (λ z. Below f p a z) (sym i.from ∙ ap label_of g) u

  pub mask : (r o : Opening) (l : ℕ) → Contains f.openings r → IsPlaced s r.label → Below f p (label_at p r.hole) l → GoesUnder f s p o l → (o.hole ≡ r.hole) ⊎ IsOnWay f s r.hole o.label
  mask r o l i placed b g = by_hole (filled_or s.plugs r.hole)
    where
      higher : IsPlaced s (label_at p r.hole) → Below f p (label_at p r.hole) (label_at p o.hole) ⊎ Below f p (label_at p o.hole) (label_at p r.hole) → Below f p (label_at p r.hole) o.label
      higher q (inl w) = owner_below o g.open_hole (label_at p r.hole) (label_at p o.hole) refl q w
      higher q (inr w) = absurd (open_unplaced f s p led top x o g.open_hole (placed_above f s p led top x (label_at p o.hole) (label_at p r.hole) w q))

      by_hole : ((k : Plug) × In k s.plugs × (k.hole ≡ r.hole)) ⊎ ((k : Plug) → In k s.plugs → k.hole ≡ r.hole → ⊥) → (o.hole ≡ r.hole) ⊎ IsOnWay f s r.hole o.label
      by_hole (inl k) =
          let c = contains_of s.plugs k.0 k.1 in
          let q : IsPlaced s (label_at p r.hole) = inr (k.0, c, sym (x.plugs k.0 c) ∙ ap (label_at p) k.2) in
          let w = higher q (comparable f s p led top x (label_at p r.hole) (label_at p o.hole) l b g.below) in
          inr ((climb f s p led top x r.hole (k.0, c, k.2) o.label g.open_hole.placed).1 w)
      by_hole (inr empty) =
          let w : IsOpen f s r = record { there = i; placed = placed; free = λ k. empty k.0 (in_of s.plugs k.0 k.1) k.2 } in
          inl (ap hole_of ((homes f s p led top x).one o r l g (record { open_hole = w; below = b })))

  module _ (has : HasBodies f) where
    pub mask_bodies : (a l : ℕ) (o : Opening) → IsPlaced s a → Reaches f p a l → GoesUnder f s p o l → (q : Quantifier) × Contains f.quantifiers q × (q.label ≡ o.label) × (q.body ≡ o.hole) × IsByBodies f s a o.label
    mask_bodies _ _ o placed (itself l) g = absurd ((homes f s p led top x).apart o l g placed)
    mask_bodies _ l o placed (by_body q _ c r) g = by_hole (filled_or s.plugs q.body) (λ w. mask_bodies (label_at p q.body) l o w r g)
      where
        by_hole : ((k : Plug) × In k s.plugs × (k.hole ≡ q.body)) ⊎ ((k : Plug) → In k s.plugs → k.hole ≡ q.body → ⊥)
            → (IsPlaced s (label_at p q.body) → (y : Quantifier) × Contains f.quantifiers y × (y.label ≡ o.label) × (y.body ≡ o.hole) × IsByBodies f s (label_at p q.body) o.label)
            → (y : Quantifier) × Contains f.quantifiers y × (y.label ≡ o.label) × (y.body ≡ o.hole) × IsByBodies f s q.label o.label
        by_hole (inl k) rest =
            let i = contains_of s.plugs k.0 k.1 in
            let b : IsPlaced s (label_at p q.body) = inr (k.0, i, sym (x.plugs k.0 i) ∙ ap (label_at p) k.2) in
            let m = rest b in
            (m.0, m.1, m.2, m.3, bodies_more f s p led top x q.label (label_at p q.body) o.label (body_step f s p led top x has q c b) m.4)
        by_hole (inr empty) rest =
            let h = has q c in
            let w : IsOpen f s h.0 = record { there = h.1; placed = subst (IsPlaced s) (sym h.2) placed; free = λ k. empty k.0 (in_of s.plugs k.0 k.1) (k.2 ∙ h.3) } in
            let d : Below f p (label_at p h.0.hole) l = subst (λ z. Below f p z l) (ap (label_at p) (sym h.3)) (below_reaches f s p led top x has (label_at p q.body) l r) in
            let e : o ≡ h.0 = (homes f s p led top x).one o h.0 l g (record { open_hole = w; below = d }) in
            let same : q.label ≡ o.label = sym h.2 ∙ ap label_of (sym e) in
            (q, c, same, sym h.3 ∙ ap hole_of (sym e), subst (IsByBodies f s q.label) same none)
