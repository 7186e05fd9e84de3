-- What lies above a label in each reading.
use Rattle.std.proofs.Common.{ℕ, ◌≡◌, ◌⊎◌, inl, inr, List, [], ◌∷◌, map, refl, sym, ◌∙◌, ap, subst}
use Rattle.std.specs.Prelude.{Contains, All}
use Rattle.scope_model.specs.declared.Opening.{Opening}
use Rattle.scope_model.specs.declared.Binding.{Binding}
use Rattle.scope_model.specs.declared.Qeq.{Qeq}
use Rattle.scope_model.specs.Frames.{Frame}
use Rattle.scope_model.specs.declared.Plug.{Plug}
use Rattle.scope_model.specs.Readings.{Plugged, IsLabel, IsHole, label_at, Leads, Below, at, down, Reaches, IsBound, Begins, at_hole, at_label, at_top, IsReading}
use Rattle.scope_model.specs.States.{state, HasBodies, LiesBelow}
use Rattle.scope_model.proofs.Lists.{In, in_of, of_map}
use Rattle.scope_model.proofs.Led.{led_once_in}
use Rattle.scope_model.proofs.Under.{lower}
use Rattle.scope_model.proofs.Climb.{below_reaches}
use Rattle.scope_model.proofs.Whole.{hole_is}
use Rattle.scope_model.proofs.Plugs.{found}
use Rattle.scope_model.proofs.First.{holds_at}
use Rattle.scope_model.proofs.Answered.{all_in}

module _ (f : Frame) (p : Plugged) (r : IsReading f p) where
  down_to : HasBodies f → (a l : ℕ) → Reaches f p a l → Below f p a l
  down_to has a l w = below_reaches f (state p.top []) p (led_once_in f p r) (λ k i. absurd (in_of [] k i)) (record { root = refl; plugs = λ k i. absurd (in_of [] k i) }) has a l w

  step_down : (o : Opening) → Contains f.openings o → Below f p o.label (label_at p o.hole)
  step_down o i = down o.label o.label (label_at p o.hole) (at o.label) (record { by = o; there = i; from = refl; to = refl })

  -- a hole that is a label has that label
  own_label : (h : ℕ) → IsHole f h → IsLabel f h → label_at p h ≡ h
  own_label h is lab =
      let k = of_map (λ (z : Plug). z.hole) h p.plugs (in_of (map (λ z. z.hole) p.plugs) h ((r.plugging.every h).0 is)) in
      let e = all_in (λ (z : Plug). IsLabel f z.hole → z.label ≡ z.hole) p.plugs k.0 r.plugging.own k.1 (subst (IsLabel f) (sym k.2) lab) in
      ap (label_at p) (sym k.2) ∙ found f p r.plugging k.0 k.1 ∙ e ∙ k.2

  from_hole : (v from : ℕ) → Begins f p v from → IsHole f v → label_at p v ≡ from
  from_hole v _ (at_hole is) hole = refl
  from_hole v _ (at_label is) hole = own_label v hole is
  from_hole v _ (at_top e a b) hole = absurd (a hole)

  from_label : (v from : ℕ) → Begins f p v from → IsLabel f v → v ≡ from
  from_label v _ (at_hole is) lab = sym (own_label v is lab)
  from_label v _ (at_label is) lab = refl
  from_label v _ (at_top e a b) lab = absurd (b lab)

  under_hole : (o : Opening) (h l : ℕ) → Contains f.openings o → o.hole ≡ h → Below f p (label_at p h) l → Below f p o.label l
  under_hole o h l i e w = lower f p o.label (label_at p o.hole) l (step_down o i) (subst (λ z. Below f p (label_at p z) l) (sym e) w)

  either : (b : Binding) (o k : Opening) → Contains f.openings o → Contains f.openings k → o.hole ≡ b.rstr → k.hole ≡ b.body → k.label ≡ o.label → IsBound f p b → Below f p o.label b.label
  either b o k i j d e g (inl w) = under_hole o b.rstr b.label i d w
  either b o k i j d e g (inr w) = subst (λ z. Below f p z b.label) g (under_hole k b.body b.label j e w)

pub of_binding : (f : Frame) (b : Binding) (o k : Opening) → Contains f.bindings b → Contains f.openings o → Contains f.openings k → o.hole ≡ b.rstr → k.hole ≡ b.body → k.label ≡ o.label → LiesBelow f o.label b.label
of_binding f b o k c i j d e g p r = either f p r b o k i j d e g (subst (IsBound f p) c.2 (r.binding c.0 b c.1))

pub of_hole : (f : Frame) (c : Qeq) (o : Opening) → HasBodies f → Contains f.qeqs c → Contains f.openings o → o.hole ≡ c.left → LiesBelow f o.label c.right
of_hole f c o has i j e p r =
    let h = holds_at f p r c i in
    let w = down_to f p r has h.from c.right h.reaches in
    let s = from_hole f p r c.left h.from h.begins (hole_is f o c.left j e) in
    under_hole f p r o c.left c.right j e (subst (λ z. Below f p z c.right) (sym s) w)

pub of_label : (f : Frame) (c : Qeq) → HasBodies f → Contains f.qeqs c → IsLabel f c.left → LiesBelow f c.left c.right
of_label f c has i lab p r =
    let h = holds_at f p r c i in
    let w = down_to f p r has h.from c.right h.reaches in
    subst (λ z. Below f p z c.right) (sym (from_label f p r c.left h.from h.begins lab)) w

pub of_forced : (f : Frame) (o : Opening) → Contains f.openings o → IsLabel f o.hole → LiesBelow f o.label o.hole
of_forced f o i lab p r = subst (λ z. Below f p o.label z) (own_label f p r o.hole (hole_is f o o.hole i refl) lab) (step_down f p r o i)
