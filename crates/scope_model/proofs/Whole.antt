-- A full state that meets what is asked of it is a reading, and no other one is.
use Rattle.std.proofs.Common.{ℕ, zero, suc, ◌+◌, ◌≡◌, ◌⊎◌, inl, inr, Bool, true, false, List, [], ◌∷◌, map, get_or, refl, sym, ◌∙◌, ap, subst}
use Rattle.std.specs.Prelude.{Contains, All, ◌↔◌, Option, Some, None, codes, not, ◌==◌, ◌&&◌, if◌then◌else◌}
use Rattle.std.specs.List.{flat_map}
use Rattle.mrs_model.specs.Meanings.{Predication, Meaning}
use Rattle.scope_model.specs.declared.Opening.{Opening}
use Rattle.scope_model.specs.declared.Quantifier.{Quantifier}
use Rattle.scope_model.specs.declared.Binding.{Binding}
use Rattle.scope_model.specs.declared.Qeq.{Qeq}
use Rattle.scope_model.specs.Frames.{Frame, has_variable, hole_at, at_role, quantifier_of, listed, placed, bindings_of, bindings_at, openings_in, frame_of}
use Rattle.scope_model.specs.declared.Plug.{Plug}
use Rattle.scope_model.specs.Readings.{Plugged, IsLabel, IsHole, holes_of, label_at, Below, Reaches, Begins, at_hole, at_label, at_top, IsPlugging, IsBound, Holds, IsTopped, IsReading}
use Rattle.scope_model.specs.States.{IsFilled, IsPlaced, Extends, IsFromTop, IsLedOnce, IsByBodies, state, IsTrail, IsFull, AreApart, HasBodies, HasHoles, IsHeld, StartsAt, by_plug, by_label, by_root, IsMet, IsUnder, IsSound}
use Rattle.scope_model.proofs.Lists.{In, in_of, contains_of, in_flat, of_flat, in_at}
use Rattle.scope_model.proofs.Led.{hole_in}
use Rattle.scope_model.proofs.Full.{owner_in, tree, led_once_by}
use Rattle.scope_model.proofs.Climb.{below_way, climb, reaches_way, way_reaches, opening, role_opens, listed_is, parts_of}

-- a hole stands in an opening
pub opening_at : (os : List Opening) (h : ℕ) → In h (map (λ o. o.hole) os) → (o : Opening) × In o os × (o.hole ≡ h)
opening_at [] h i = absurd i
opening_at (o ∷ os) h (inl e) = (o, inl refl, sym e)
opening_at (o ∷ os) h (inr i) = let r = opening_at os h i in (r.0, inr r.1, r.2)

pub hole_is : (f : Frame) (o : Opening) (h : ℕ) → Contains f.openings o → o.hole ≡ h → IsHole f h
hole_is f o h i e = subst (IsHole f) e (contains_of (holes_of f) o.hole (hole_in f.openings o (in_of f.openings o i)))

module _ (f : Frame) (root : ℕ) (ks : List Plug) (p : Plugged) (trail : IsTrail f root ks) (apart : AreApart f.openings) (full : IsFull f (state root ks)) (x : Extends (state root ks) p) (has : HasBodies f) (held : HasHoles f) where
  led : IsLedOnce f p
  led = led_once_by f root ks p trail apart full x

  top : IsFromTop f (state root ks)
  top k i = owner_in f root ks trail k (in_of ks k i)

  filled : (h : ℕ) → IsHole f h → IsFilled (state root ks) h
  filled h is =
      let o = opening_at f.openings h (in_of (holes_of f) h is) in
      let k = full.holes o.0 (contains_of f.openings o.0 o.1) in
      (k.0, k.1, k.2 ∙ o.2)

  begins : (v from : ℕ) → StartsAt f (state root ks) v from → Begins f p v from
  begins v _ (by_plug k c e) =
      let o = owner_in f root ks trail k (in_of ks k c) in
      let to : label_at p v ≡ k.label = ap (label_at p) (sym e) ∙ x.plugs k c in
      subst (Begins f p v) to (at_hole (hole_is f o.0 v o.1 (o.2 ∙ e)))
  begins v _ (by_label is) = at_label is
  begins v _ (by_root e a b) = subst (Begins f p v) x.root (at_top e a b)

  starts : (v from : ℕ) → Begins f p v from → StartsAt f (state root ks) v from
  starts v _ (at_hole is) =
      let k = filled v is in
      let to : k.0.label ≡ label_at p v = sym (x.plugs k.0 k.1) ∙ ap (label_at p) k.2 in
      subst (StartsAt f (state root ks) v) to (by_plug k.0 k.1 k.2)
  starts v _ (at_label is) = by_label is
  starts v _ (at_top e a b) = subst (StartsAt f (state root ks) v) (sym x.root) (by_root e a b)

  bound : (b : Binding) → IsUnder f (state root ks) b → IsBound f p b
  bound b (inl w) = inl (below_way f (state root ks) p led top x b.rstr b.label w)
  bound b (inr w) = inr (below_way f (state root ks) p led top x b.body b.label w)

  under : (b : Binding) → IsHeld f b → IsBound f p b → IsUnder f (state root ks) b
  under b h (inl w) = inl ((climb f (state root ks) p led top x b.rstr (filled b.rstr h.rstr) b.label (full.labels b.label h.label)).1 w)
  under b h (inr w) = inr ((climb f (state root ks) p led top x b.body (filled b.body h.body) b.label (full.labels b.label h.label)).1 w)

  holds : (c : Qeq) → IsMet f (state root ks) c → Holds f p c
  holds c m = record { right = m.right; from = m.from; begins = begins c.left m.from m.starts; reaches = reaches_way f (state root ks) p led top x m.from c.right m.way }

  met : (c : Qeq) → Holds f p c → IsMet f (state root ks) c
  met c m = record { right = m.right; from = m.from; starts = starts c.left m.from m.begins; way = way_reaches f (state root ks) p led top x has m.from c.right m.reaches (full.labels c.right m.right) }

  reading : IsPlugging f p → IsSound f (state root ks) → IsReading f p
  reading plugging s = record {
    plugging = plugging;
    tree = tree f root ks p trail apart full x;
    binding = λ k d l. bound (get_or f.bindings k d) (s.bindings k d l);
    qeqs = λ k d l. holds (get_or f.qeqs k d) (s.qeqs k d l);
    top = record {
      label = λ is. subst (λ z. Reaches f p z f.top) (sym x.root) (reaches_way f (state root ks) p led top x root f.top (s.label is));
      hole = λ never is. (let k = filled f.top is in x.root ∙ s.hole never k.0 k.1 k.2 ∙ sym (x.plugs k.0 k.1) ∙ ap (label_at p) k.2);
    };
  }

  sound : IsReading f p → IsSound f (state root ks)
  sound r = record {
    bindings = λ k d l. (let b = get_or f.bindings k d in under b (held b (contains_of f.bindings b (in_at f.bindings k d l))) (r.binding k d l));
    qeqs = λ k d l. met (get_or f.qeqs k d) (r.qeqs k d l);
    label = λ is. way_reaches f (state root ks) p led top x has root f.top (subst (λ z. Reaches f p z f.top) x.root (r.top.label is)) (full.labels f.top is);
    hole = λ never k c e. (let o = owner_in f root ks trail k (in_of ks k c) in
        sym x.root ∙ r.top.hole never (hole_is f o.0 f.top o.1 (o.2 ∙ e)) ∙ ap (label_at p) (sym e) ∙ x.plugs k c);
  }

  pub whole : IsPlugging f p → IsSound f (state root ks) ↔ IsReading f p
  whole plugging = (reading plugging, sound)

in_placed : (n : ℕ) (es : List Predication) (s : ℕ × Predication) → In s (placed n es) → In s.1 es
in_placed n [] s i = absurd i
in_placed n (e ∷ es) s (inl d) = inl (ap (λ (z : ℕ × Predication). z.1) d)
in_placed n (e ∷ es) s (inr i) = inr (in_placed (n + 1) es s i)

-- a binding of a quantifier has its holes, and the label of some elementary predication
of_bindings : (q : Quantifier) (bound : Option ℕ) (own : ℕ) (es : List (ℕ × Predication)) (b : Binding) → In b (bindings_of q bound own es) → (b.rstr ≡ q.rstr) × (b.body ≡ q.body) × ((s : ℕ × Predication) × In s es × (b.label ≡ s.1.label))
of_bindings q None own es b i = absurd i
of_bindings q (Some v) own es b i =
    let r = of_flat (λ (s : ℕ × Predication). if (not (s.0 == own) && has_variable v s.1.args) then record { rstr = q.rstr; body = q.body; label = s.1.label } ∷ [] else []) b es i in
    let g = by_test r.0 (not (r.0.0 == own) && has_variable v r.0.1.args) r.2 in
    (ap (λ (z : Binding). z.rstr) g, ap (λ (z : Binding). z.body) g, (r.0, r.1, ap (λ (z : Binding). z.label) g))
  where
    by_test : (s : ℕ × Predication) (t : Bool) → In b (if t then record { rstr = q.rstr; body = q.body; label = s.1.label } ∷ [] else []) → b ≡ record { rstr = q.rstr; body = q.body; label = s.1.label }
    by_test s true (inl e) = e
    by_test s true (inr j) = absurd j
    by_test s false j = absurd j

pub label_in_map : (es : List Predication) (e : Predication) → In e es → In e.label (map (λ d. d.label) es)
label_in_map [] e i = absurd i
label_in_map (d ∷ es) e (inl h) = inl (ap (λ (z : Predication). z.label) h)
label_in_map (d ∷ es) e (inr i) = inr (label_in_map es e i)

hole_held : (m : Meaning) (e : Predication) → In e m.eps → (role : List ℕ) (h : ℕ) → hole_at m (at_role role e.args) ≡ Some h → IsHole (frame_of m) h
hole_held m e i role h d =
    let o = opening e.label h in
    let j : In o (openings_in m e) = role_opens m e.label role e.args h d in
    hole_is (frame_of m) o h (contains_of (frame_of m).openings o (in_flat (openings_in m) e o m.eps i j)) refl

pub has_holes : (m : Meaning) → HasHoles (frame_of m)
has_holes m b c =
    let es = placed 0 m.eps in
    let r = of_flat (bindings_at m es) b es (in_of (frame_of m).bindings b c) in
    let s = r.0 in
    let q = of_flat (λ (z : Quantifier). bindings_of z z.bound s.0 es) b (listed (quantifier_of m s.1)) r.2 in
    let g = of_bindings q.0 q.0.bound s.0 es b q.2 in
    let are = parts_of s.1 (hole_at m (at_role (codes "rstr") s.1.args)) (hole_at m (at_role (codes "body") s.1.args)) q.0 (listed_is (quantifier_of m s.1) q.0 q.1) in
    let e = in_placed 0 m.eps s r.1 in
    let w = g.2 in
    let d = in_placed 0 m.eps w.0 w.1 in
    record {
      rstr = subst (IsHole (frame_of m)) (sym g.0) (hole_held m s.1 e (codes "rstr") q.0.rstr are.1);
      body = subst (IsHole (frame_of m)) (sym g.1) (hole_held m s.1 e (codes "body") q.0.body are.2);
      label = subst (IsLabel (frame_of m)) (sym w.2) (contains_of (frame_of m).labels w.0.1.label (label_in_map m.eps w.0.1 d));
    }
