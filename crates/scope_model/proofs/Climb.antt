-- What is above a label that is plugged in, in each plugging that goes on from the state.
use Rattle.std.proofs.Common.{ℕ, ◌≡◌, ◌⊎◌, inl, inr, Bool, true, false, List, [], ◌∷◌, map, refl, sym, ◌∙◌, ap, subst}
use Rattle.std.specs.Prelude.{Contains, ◌↔◌, Option, Some, None, if◌then◌else◌, codes}
use Rattle.std.specs.List.{flat_map}
use Rattle.std.specs.Str.{bytes_eq}
use Rattle.mrs_model.specs.Meanings.{Filler, of_var, of_text, Argument, Predication, Meaning}
use Rattle.scope_model.specs.declared.Opening.{Opening}
use Rattle.scope_model.specs.declared.Quantifier.{Quantifier}
use Rattle.scope_model.specs.Frames.{Frame, is_handle, handles_in, openings_in, variable_in, at_role, hole_at, quantifier_with, quantifier_of, listed, frame_of}
use Rattle.scope_model.specs.declared.Plug.{Plug}
use Rattle.scope_model.specs.Readings.{Plugged, label_at, Leads, Below, at, down, Reaches, itself, by_body}
use Rattle.scope_model.specs.States.{State, IsPlaced, IsFilled, IsFromTop, Extends, IsLedOnce, IsOnWay, here, up, IsByBodies, none, body, HasBodies}
use Rattle.mrs_text.specs.Written.{or_zero}
use Rattle.scope_model.proofs.Lists.{In, in_of, contains_of, in_left, in_right, in_flat, of_flat}
use Rattle.scope_model.proofs.Under.{one_opening, root_not_led, placed_above, lower}

abbrev label_of : Opening → ℕ
label_of o = o.label

abbrev hole_of : Opening → ℕ
hole_of o = o.hole

module _ (f : Frame) (s : State) (p : Plugged) (led : IsLedOnce f p) (top : IsFromTop f s) (x : Extends s p) where
  pub below_way : (h l : ℕ) → IsOnWay f s h l → Below f p (label_at p h) l
  below_way h _ (here k c d) = subst (λ z. Below f p z k.label) (sym (x.plugs k c) ∙ ap (label_at p) d) (at k.label)
  below_way h _ (up k o c i d w) = down (label_at p h) o.label k.label (below_way h o.label w) (record { by = o; there = i; from = refl; to = ap (label_at p) d ∙ x.plugs k c })

  way : (h a l : ℕ) (j : Plug) → Contains s.plugs j → j.hole ≡ h → j.label ≡ a → Below f p a l → IsPlaced s l → IsOnWay f s h l
  way h _ _ j c d e (at l) placed = subst (IsOnWay f s h) e (here j c d)
  way h a _ j c d e (down _ n l u i) (inl r) = absurd (root_not_led f s p led top x i.by i.there (i.to ∙ r))
  way h a _ j c d e (down _ n l u i) (inr k) =
      let o = top k.0 k.1 in
      let to : label_at p o.0.hole ≡ l = ap (label_at p) o.2 ∙ x.plugs k.0 k.1 ∙ k.2 in
      let same : o.0 ≡ i.by = one_opening f s p led top x o.0 i.by l o.1 i.there to i.to in
      let g : o.0.label ≡ n = ap label_of same ∙ i.from in
      let w : IsOnWay f s h n = way h a n j c d e u (subst (IsPlaced s) g o.3) in
      subst (IsOnWay f s h) k.2 (up k.0 o.0 k.1 o.1 o.2 (subst (IsOnWay f s h) (sym g) w))

  pub climb : (h : ℕ) → IsFilled s h → (l : ℕ) → IsPlaced s l → IsOnWay f s h l ↔ Below f p (label_at p h) l
  climb h j l placed = (below_way h l, λ b. way h (label_at p h) l j.0 j.1 j.2 (sym (x.plugs j.0 j.1) ∙ ap (label_at p) j.2) b placed)

  reaches_more : (a b l : ℕ) → Reaches f p a b → Reaches f p b l → Reaches f p a l
  reaches_more _ _ l (itself b) r = r
  reaches_more _ b l (by_body q _ c u) r = by_body q l c (reaches_more (label_at p q.body) b l u r)

  pub reaches_way : (a l : ℕ) → IsByBodies f s a l → Reaches f p a l
  reaches_way a _ none = itself a
  reaches_way a _ (body q k c i d w) =
      let step : Reaches f p (label_at p q.body) k.label = subst (λ z. Reaches f p z k.label) (sym (x.plugs k i) ∙ ap (label_at p) d) (itself k.label) in
      reaches_more a q.label k.label (reaches_way a q.label w) (by_body q k.label c step)

  pub bodies_more : (a b l : ℕ) → IsByBodies f s a b → IsByBodies f s b l → IsByBodies f s a l
  bodies_more a b _ w none = w
  bodies_more a b _ w (body q k c i d v) = body q k c i d (bodies_more a b q.label w v)

  module _ (has : HasBodies f) where
    body_leads : (q : Quantifier) → Contains f.quantifiers q → Leads f p q.label (label_at p q.body)
    body_leads q c = let o = has q c in record { by = o.0; there = o.1; from = o.2; to = ap (label_at p) o.3 }

    pub below_reaches : (a l : ℕ) → Reaches f p a l → Below f p a l
    below_reaches _ _ (itself l) = at l
    below_reaches _ l (by_body q _ c r) =
        lower f p q.label (label_at p q.body) l (down q.label q.label (label_at p q.body) (at q.label) (body_leads q c)) (below_reaches (label_at p q.body) l r)

    pub body_step : (q : Quantifier) → Contains f.quantifiers q → IsPlaced s (label_at p q.body) → IsByBodies f s q.label (label_at p q.body)
    body_step q c (inl e) = let o = has q c in absurd (root_not_led f s p led top x o.0 o.1 (ap (label_at p) o.3 ∙ e))
    body_step q c (inr k) =
        let o = has q c in
        let m = top k.0 k.1 in
        let to : label_at p m.0.hole ≡ label_at p q.body = ap (label_at p) m.2 ∙ x.plugs k.0 k.1 ∙ k.2 in
        let same : m.0 ≡ o.0 = one_opening f s p led top x m.0 o.0 (label_at p q.body) m.1 o.1 to (ap (label_at p) o.3) in
        subst (IsByBodies f s q.label) k.2 (body q k.0 c k.1 (sym m.2 ∙ ap hole_of same ∙ o.3) none)

    pub way_reaches : (a l : ℕ) → Reaches f p a l → IsPlaced s l → IsByBodies f s a l
    way_reaches _ _ (itself l) placed = none
    way_reaches _ l (by_body q _ c r) placed =
        let b = label_at p q.body in
        let w = way_reaches b l r placed in
        let above = placed_above f s p led top x b l (below_reaches b l r) placed in
        bodies_more q.label b l (body_step q c above) w

    pub climb_bodies : (a l : ℕ) → IsPlaced s l → IsByBodies f s a l ↔ Reaches f p a l
    climb_bodies a l placed = (reaches_way a l, λ r. way_reaches a l r placed)

abbrev pub opening : ℕ → ℕ → Opening
opening label h = record { label = label; hole = h }

abbrev pub opened : Meaning → ℕ → Argument → List Opening
opened m label a = map (λ h. record { label = label; hole = h }) (handles_in m a.filler)

-- a role of sort `h` is an opening
pub role_opens : (m : Meaning) (label : ℕ) (role : List ℕ) (args : List Argument) (h : ℕ) → hole_at m (at_role role args) ≡ Some h → In (opening label h) (flat_map (opened m label) args)
role_opens m label role [] h e = absurd (cc)
role_opens m label role (a ∷ args) h e = by_test (bytes_eq a.role role) e (role_opens m label role args h)
  where
    handle : (v : ℕ) (b : Bool) → (if b then Some v else None) ≡ Some h → In (opening label h) (map (λ k. record { label = label; hole = k }) (if b then v ∷ [] else []))
    handle v true d = inl (ap (opening label) (ap or_zero (sym d)))
    handle v false d = absurd (cc)

    filled : (x : Filler) → hole_at m (variable_in x) ≡ Some h → In (opening label h) (map (λ k. record { label = label; hole = k }) (handles_in m x))
    filled (of_var v) d = handle v (is_handle m v) d
    filled (of_text t) d = absurd (cc)

    by_test : (b : Bool) → hole_at m (if b then variable_in a.filler else at_role role args) ≡ Some h → (hole_at m (at_role role args) ≡ Some h → In (opening label h) (flat_map (opened m label) args)) → In (opening label h) (flat_map (opened m label) (a ∷ args))
    by_test true d rest = in_left (opening label h) (opened m label a) (flat_map (opened m label) args) (filled a.filler d)
    by_test false d rest = in_right (opening label h) (opened m label a) (flat_map (opened m label) args) (rest d)

pub listed_is : (x : Option Quantifier) (q : Quantifier) → In q (listed x) → x ≡ Some q
listed_is None q i = absurd i
listed_is (Some y) q (inl e) = ap (λ (z : Quantifier). Some z) (sym e)
listed_is (Some y) q (inr j) = absurd j

abbrev or_first : Quantifier → Option Quantifier → Quantifier
or_first q None = q
or_first q (Some x) = x

pub parts_of : (e : Predication) (r b : Option ℕ) (q : Quantifier) → quantifier_with e r b ≡ Some q → (e.label ≡ q.label) × (r ≡ Some q.rstr) × (b ≡ Some q.body)
parts_of e (Some r) (Some b) q d = let g = ap (or_first q) d in (ap (λ (z : Quantifier). z.label) g, ap (λ (z : Quantifier). Some z.rstr) g, ap (λ (z : Quantifier). Some z.body) g)
parts_of e (Some r) None q d = absurd (cc)
parts_of e None b q d = absurd (cc)

pub has_bodies : (m : Meaning) → HasBodies (frame_of m)
has_bodies m q c =
    let r = of_flat (λ (e : Predication). listed (quantifier_of m e)) q m.eps (in_of (frame_of m).quantifiers q c) in
    let e = r.0 in
    let are = parts_of e (hole_at m (at_role (codes "rstr") e.args)) (hole_at m (at_role (codes "body") e.args)) q (listed_is (quantifier_of m e) q r.2) in
    let o = opening e.label q.body in
    let i : In o (openings_in m e) = role_opens m e.label (codes "body") e.args q.body are.2 in
    (o, contains_of (frame_of m).openings o (in_flat (openings_in m) e o m.eps r.1 i), are.0, refl)
