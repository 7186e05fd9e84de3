-- When never reading goes on from a state.
use Rattle.std.proofs.Common.{ℕ, zero, ◌≡◌, ◌<◌, ◌⊎◌, inl, inr, List, [], refl, sym, subst, arith}
use Rattle.std.specs.Prelude.{Contains, ◌↔◌}
use Rattle.scope_model.specs.declared.Opening.{Opening}
use Rattle.scope_model.specs.Frames.{Frame}
use Rattle.scope_model.specs.Readings.{Plugged, IsLabel, label_at, Below, IsReading}
use Rattle.scope_model.specs.States.{State, IsPlaced, IsOpen, IsFromTop, Extends, GoesUnder, HasHomes, IsDead, IsAllowed, LiesBelow, GoTogether}
use Rattle.scope_model.proofs.Lists.{In, in_of}
use Rattle.scope_model.proofs.Led.{hole_label, led_once_in}
use Rattle.scope_model.proofs.Under.{homes}

module _ (f : Frame) (s : State) (top : IsFromTop f s) where
  homes_in : (p : Plugged) → IsReading f p → Extends s p → HasHomes f s p
  homes_in p r x = homes f s p (led_once_in f p r) top x

  -- a label that may go under never hole
  pub dead_label : (allowed : ℕ → List ℕ) → IsAllowed f s allowed → (l : ℕ) → IsLabel f l → (IsPlaced s l → ⊥) → allowed l ≡ [] → IsDead f s
  dead_label allowed may l is never e = λ p r x. elim ((homes_in p r x).each l (r.tree.reached l is)) [
    | inl here ↦ never here
    | inr g ↦ (let c : Contains [] g.0.hole = subst (λ (hs : List ℕ). Contains hs g.0.hole) e (may p r x g.0 l g.1) in in_of [] g.0.hole c)
  ]

  -- an open hole that never label may go under
  pub dead_hole : (allowed : ℕ → List ℕ) → IsAllowed f s allowed → (o : Opening) → IsOpen f s o → ((l : ℕ) → IsLabel f l → Contains (allowed l) o.hole → ⊥) → IsDead f s
  dead_hole allowed may o w none = λ p r x.
      none (label_at p o.hole) (hole_label f p r o (in_of f.openings o w.there)) (may p r x o (label_at p o.hole) ((homes_in p r x).filled o w))

  -- a label that is plugged in below one that isn't
  pub dead_above : (a l : ℕ) → LiesBelow f a l → IsLabel f a → (IsPlaced s a → ⊥) → IsPlaced s l → IsDead f s
  dead_above a l below is never here = λ p r x.
      (let h = homes_in p r x in
      elim (h.each a (r.tree.reached a is)) [ inl there ↦ never there | inr g ↦ h.apart g.0 l (h.same g.0 a l g.1 (below p r)) here ])

  -- two labels, one below the other, go under the same hole
  pub together : (a l : ℕ) → LiesBelow f a l → IsLabel f a → (IsPlaced s a → ⊥) → GoTogether f s a l
  together a l below is never = λ p r x o.
      (let h = homes_in p r x in (
        λ g. h.same o a l g (below p r),
        λ g. elim (h.each a (r.tree.reached a is)) [
          | inl there ↦ absurd (never there)
          | inr k ↦ subst (λ (z : Opening). GoesUnder f s p z a) (h.one k.0 o l (h.same k.0 a l k.1 (below p r)) g) k.1
        ],
      ))
