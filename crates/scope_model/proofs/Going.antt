-- From the top down each reading is met: it goes on from a state by each open hole, and where no hole is open the state is full.
use Rattle.std.proofs.Common.{ℕ, ◌≡◌, ◌⊎◌, inl, inr, Bool, true, false, List, [], ◌∷◌, map, get_or, refl, sym, ◌∙◌, ap, subst, ◌==◌}
use Rattle.std.specs.Prelude.{Contains, All, if◌then◌else◌, ◌↔◌}
use Rattle.std.specs.List.{flat_map}
use Rattle.std.proofs.lemmas.Bool.{eq-eqb, eqb-true}
use Rattle.mrs_model.specs.Meanings.{Argument, Predication, Meaning}
use Rattle.scope_model.specs.declared.Opening.{Opening}
use Rattle.scope_model.specs.Frames.{Frame, handles_in, openings_in, frame_of}
use Rattle.scope_model.specs.declared.Plug.{Plug}
use Rattle.scope_model.specs.Readings.{Plugged, IsLabel, IsHole, holes_of, label_in, label_at, Rise, IsPlugging, IsReading}
use Rattle.scope_model.specs.States.{IsPlaced, IsFilled, IsOpen, IsFromTop, Extends, IsLedOnce, state, MayPlug, IsTrail, IsFull, HasLabels, IsWellPlugged}
use Rattle.scope_model.proofs.Lists.{In, in_of, contains_of, in_at, of_flat, of_map}
use Rattle.scope_model.proofs.Led.{hole_in, led_once_in}
use Rattle.scope_model.proofs.Under.{open_unplaced, filled_or, homes}
use Rattle.scope_model.proofs.Full.{owner_in}
use Rattle.scope_model.proofs.Whole.{opening_at, hole_is, label_in_map}

abbrev plug : ℕ → ℕ → Plug
plug hole label = record { hole = hole; label = label }

module _ (f : Frame) (root : ℕ) (ks : List Plug) (p : Plugged) (r : IsReading f p) (t : IsTrail f root ks) (x : Extends (state root ks) p) where
  led : IsLedOnce f p
  led = led_once_in f p r

  top : IsFromTop f (state root ks)
  top k i = owner_in f root ks t k (in_of ks k i)

  -- the reading goes on by each open hole
  pub step : (o : Opening) → IsOpen f (state root ks) o → MayPlug f (state root ks) (plug o.hole (label_at p o.hole)) × Extends (state root (plug o.hole (label_at p o.hole) ∷ ks)) p
  step o w = (
    record { owner = o; there = w.there; hole = refl; placed = w.placed; free = w.free; new = open_unplaced f (state root ks) p led top x o w },
    record { root = x.root; plugs = λ k c. stays k (in_of (plug o.hole (label_at p o.hole) ∷ ks) k c) },
  )
    where
      stays : (k : Plug) → In k (plug o.hole (label_at p o.hole) ∷ ks) → label_at p k.hole ≡ k.label
      stays k (inl e) = subst (λ (z : Plug). label_at p z.hole ≡ z.label) (sym e) refl
      stays k (inr i) = x.plugs k (contains_of ks k i)

  all_placed : ((o : Opening) → IsOpen f (state root ks) o → ⊥) → (l : ℕ) → IsLabel f l → IsPlaced (state root ks) l
  all_placed closed l is = elim ((homes f (state root ks) p led top x).each l (r.tree.reached l is)) [ inl there ↦ there | inr g ↦ absurd (closed g.0 g.1.open_hole) ]

  -- where no hole is open the state is full
  pub full_at : HasLabels f → ((o : Opening) → IsOpen f (state root ks) o → ⊥) → IsFull f (state root ks)
  full_at has closed = record {
    labels = all_placed closed;
    holes = λ o c. elim (filled_or ks o.hole) [
      | inl k ↦ (k.0, contains_of ks k.0 k.1, k.2)
      | inr none ↦ absurd (closed o (record { there = c; placed = all_placed closed o.label (has o c); free = λ j. none j.0 (in_of ks j.0 j.1) j.2 }))
    ];
  }

pub has_labels : (m : Meaning) → HasLabels (frame_of m)
has_labels m o c =
    let r = of_flat (openings_in m) o m.eps (in_of (frame_of m).openings o c) in
    let a = of_flat (λ (b : Argument). map (λ h. record { label = r.0.label; hole = h }) (handles_in m b.filler)) o r.0.args r.2 in
    let h = of_map (λ (n : ℕ). record { label = r.0.label; hole = n }) o (handles_in m a.0.filler) a.2 in
    let e : r.0.label ≡ o.label = ap (λ (z : Opening). z.label) h.2 in
    subst (IsLabel (frame_of m)) e (contains_of (frame_of m).labels r.0.label (label_in_map m.eps r.0 r.1))

-- two plugs in one hole are one
one_in : (f : Frame) (root : ℕ) (ks : List Plug) → IsTrail f root ks → (k j : Plug) → In k ks → In j ks → k.hole ≡ j.hole → k ≡ j
one_in f root [] t k j a b e = absurd a
one_in f root (x ∷ ks) t k j (inl a) (inl b) e = a ∙ sym b
one_in f root (x ∷ ks) t k j (inl a) (inr b) e = absurd (t.1.free (j, contains_of ks j b, sym e ∙ ap (λ (z : Plug). z.hole) a))
one_in f root (x ∷ ks) t k j (inr a) (inl b) e = absurd (t.1.free (k, contains_of ks k a, e ∙ ap (λ (z : Plug). z.hole) b))
one_in f root (x ∷ ks) t k j (inr a) (inr b) e = one_in f root ks t.0 k j a b e

-- the label of a hole that has one plug
pub label_found : (ps : List Plug) (k : Plug) → In k ps → ((j : Plug) → In j ps → j.hole ≡ k.hole → j ≡ k) → label_in ps k.hole ≡ k.label
label_found [] k i one = absurd i
label_found (x ∷ ps) k i one = by_test (x.hole == k.hole) refl i (λ m. label_found ps k m (λ j n. one j (inr n)))
  where
    by_test : (b : Bool) → b ≡ (x.hole == k.hole) → In k (x ∷ ps) → (In k ps → label_in ps k.hole ≡ k.label) → (if b then x.label else label_in ps k.hole) ≡ k.label
    by_test true e m rest = ap (λ (z : Plug). z.label) (one x (inl refl) (eqb-true x.hole k.hole (sym e)))
    by_test false e (inr m) rest = rest m
    by_test false e (inl d) rest =
        let t : (x.hole == k.hole) ≡ true = eq-eqb x.hole k.hole (ap (λ (z : Plug). z.hole) (sym d)) in
        let w : true ≡ false = sym t ∙ sym e in
        absurd (cc)

pub hole_of_plug : (qs : List Plug) (k : Plug) → In k qs → In k.hole (map (λ z. z.hole) qs)
hole_of_plug [] k i = absurd i
hole_of_plug (x ∷ qs) k (inl e) = inl (ap (λ (z : Plug). z.hole) e)
hole_of_plug (x ∷ qs) k (inr i) = inr (hole_of_plug qs k i)

module _ (f : Frame) (root : ℕ) (ks ps : List Plug) (t : IsTrail f root ks) (full : IsFull f (state root ks)) (well : IsWellPlugged f root ks) (same : (k : Plug) → Contains ps k ↔ Contains ks k) (rise : Rise (map (λ k. k.hole) ps)) where
  to_trail : (k : Plug) → In k ps → In k ks
  to_trail k i = in_of ks k ((same k).0 (contains_of ps k i))

  extends : Extends (state root ks) (record { top = root; plugs = ps })
  extends = record {
    root = refl;
    plugs = λ k c. label_found ps k (in_of ps k ((same k).1 c)) (λ j i e. one_in f root ks t j k (to_trail j i) (in_of ks k c) e);
  }

  hole_to : (h : ℕ) → IsHole f h → Contains (map (λ k. k.hole) ps) h
  hole_to h is =
      let o = opening_at f.openings h (in_of (holes_of f) h is) in
      let k = full.holes o.0 (contains_of f.openings o.0 o.1) in
      let i = hole_of_plug ps k.0 (in_of ps k.0 ((same k.0).1 k.1)) in
      contains_of (map (λ z. z.hole) ps) h (subst (λ z. In z (map (λ y. y.hole) ps)) (k.2 ∙ o.2) i)

  -- the plugs of a full state, in order of their holes, are a plugging that goes on from it
  pub plugging_of : IsPlugging f (record { top = root; plugs = ps }) × Extends (state root ks) (record { top = root; plugs = ps })
  plugging_of = (
    record {
      top = well.top;
      order = rise;
      every = λ h. (hole_to h, λ c. from_plug h (of_map (λ (z : Plug). z.hole) h ps (in_of (map (λ z. z.hole) ps) h c)));
      labels = λ k d l. (let i = in_at ps k d l in let y = get_or ps k d in well.labels y (contains_of ks y (to_trail y i)));
      own = λ k d l. (let i = in_at ps k d l in let y = get_or ps k d in well.own y (contains_of ks y (to_trail y i)));
    },
    extends,
  )
    where
      from_plug : (h : ℕ) → ((k : Plug) × In k ps × (k.hole ≡ h)) → IsHole f h
      from_plug h k = let o = owner_in f root ks t k.0 (to_trail k.0 k.1) in hole_is f o.0 h o.1 (o.2 ∙ k.2)
