-- A state from the top down in which every hole has a label is a tree.
use Rattle.std.proofs.Common.{ℕ, zero, suc, ◌+◌, ◌≡◌, ◌≤◌, ◌⊎◌, inl, inr, Bool, true, false, List, [], ◌∷◌, refl, sym, ◌∙◌, ap, subst, arith, ◌==◌}
use Rattle.std.specs.Prelude.{Contains, if◌then◌else◌}
use Rattle.std.proofs.lemmas.Bool.{eqb-true}
use Rattle.scope_model.specs.declared.Opening.{Opening}
use Rattle.scope_model.specs.Frames.{Frame}
use Rattle.scope_model.specs.declared.Plug.{Plug}
use Rattle.scope_model.specs.Readings.{Plugged, IsLabel, label_at, Leads, times_led, Below, at, down, IsTree, IsReading}
use Rattle.scope_model.specs.States.{IsPlaced, IsFilled, Extends, IsLedOnce, state, MayPlug, IsTrail, IsFull, AreApart}
use Rattle.scope_model.proofs.Lists.{In, in_of, contains_of}
use Rattle.scope_model.proofs.Led.{led_once_in}
use Rattle.scope_model.proofs.Under.{yes, least, led_test, led_some}

abbrev hole_of : Plug → ℕ
hole_of k = k.hole

abbrev label_of : Plug → ℕ
label_of k = k.label

placed_more : (root : ℕ) (k : Plug) (ks : List Plug) (l : ℕ) → IsPlaced (state root ks) l → IsPlaced (state root (k ∷ ks)) l
placed_more root k ks l (inl e) = inl e
placed_more root k ks l (inr j) = inr (j.0, contains_of (k ∷ ks) j.0 (inr (in_of ks j.0 j.1)), j.2)

pub owner_in : (f : Frame) (root : ℕ) (ks : List Plug) → IsTrail f root ks → (k : Plug) → In k ks → (o : Opening) × Contains f.openings o × (o.hole ≡ k.hole) × IsPlaced (state root ks) o.label
owner_in f root [] t k i = absurd i
owner_in f root (x ∷ ks) t k (inl e) = (t.1.owner, t.1.there, t.1.hole ∙ ap hole_of (sym e), placed_more root x ks t.1.owner.label t.1.placed)
owner_in f root (x ∷ ks) t k (inr i) = let r = owner_in f root ks t.0 k i in (r.0, r.1, r.2, placed_more root x ks r.0.label r.3)

not_root : (f : Frame) (root : ℕ) (ks : List Plug) → IsTrail f root ks → (k : Plug) → In k ks → k.label ≡ root → ⊥
not_root f root [] t k i e = absurd i
not_root f root (x ∷ ks) t k (inl d) e = t.1.new (inl (ap label_of (sym d) ∙ e))
not_root f root (x ∷ ks) t k (inr i) e = not_root f root ks t.0 k i e

one_plug : (f : Frame) (root : ℕ) (ks : List Plug) → IsTrail f root ks → (k j : Plug) → In k ks → In j ks → k.label ≡ j.label → k ≡ j
one_plug f root [] t k j a b e = absurd a
one_plug f root (x ∷ ks) t k j (inl a) (inl b) e = a ∙ sym b
one_plug f root (x ∷ ks) t k j (inl a) (inr b) e = absurd (t.1.new (inr (j, contains_of ks j b, sym e ∙ ap label_of a)))
one_plug f root (x ∷ ks) t k j (inr a) (inl b) e = absurd (t.1.new (inr (k, contains_of ks k a, e ∙ ap label_of b)))
one_plug f root (x ∷ ks) t k j (inr a) (inr b) e = one_plug f root ks t.0 k j a b e

none_led : (p : Plugged) (l : ℕ) (os : List Opening) → ((o : Opening) → In o os → label_at p o.hole ≡ l → ⊥) → times_led os p l ≡ 0
none_led p l [] never = refl
none_led p l (x ∷ os) never = by_test (label_at p x.hole == l) refl (none_led p l os (λ o i. never o (inr i)))
  where
    by_test : (b : Bool) → b ≡ (label_at p x.hole == l) → times_led os p l ≡ 0 → (if b then 1 + times_led os p l else times_led os p l) ≡ 0
    by_test true e n = absurd (never x (inl refl) (eqb-true (label_at p x.hole) l (sym e)))
    by_test false e n = n

few : (p : Plugged) (l : ℕ) (os : List Opening) → AreApart os → ((o k : Opening) → In o os → In k os → label_at p o.hole ≡ l → label_at p k.hole ≡ l → o.hole ≡ k.hole) → times_led os p l ≤ 1
few p l [] a h = omega arith
few p l (x ∷ os) a h = by_test (label_at p x.hole == l) refl (few p l os a.1 (λ o k i j. h o k (inr i) (inr j)))
  where
    by_test : (b : Bool) → b ≡ (label_at p x.hole == l) → times_led os p l ≤ 1 → (if b then 1 + times_led os p l else times_led os p l) ≤ 1
    by_test true e rest =
        let d = eqb-true (label_at p x.hole) l (sym e) in
        let z : times_led os p l ≡ 0 = none_led p l os (λ o i q. a.0 o (contains_of os o i) (h o x (inr i) (inl refl) q d)) in
        omega (arith, z)
    by_test false e rest = rest

-- where never label is led to twice never hole stands in two roles
apart_by : (p : Plugged) (os : List Opening) → ((l : ℕ) → times_led os p l ≤ 1) → AreApart os
apart_by p [] n = tt
apart_by p (x ∷ os) n = (twice, apart_by p os rest)
  where
    twice : (k : Opening) → Contains os k → k.hole ≡ x.hole → ⊥
    twice k i e =
        let l = label_at p x.hole in
        let u : times_led (x ∷ os) p l ≡ 1 + times_led os p l = yes (label_at p x.hole == l) (times_led os p l) (led_test p l x refl) in
        let s = led_some p l os k (in_of os k i) (ap (label_at p) e) in
        let m = n l in
        omega (arith, u, s, m)

    rest : (l : ℕ) → times_led os p l ≤ 1
    rest l =
        let u : times_led os p l ≤ times_led (x ∷ os) p l = least (label_at p x.hole == l) (times_led os p l) in
        let m = n l in
        omega (arith, u, m)

pub apart : (f : Frame) (p : Plugged) → IsReading f p → AreApart f.openings
apart f p r = apart_by p f.openings (led_once_in f p r).once

-- each label that is plugged in is reached from the root
below_placed : (f : Frame) (p : Plugged) (root : ℕ) (ks : List Plug) → IsTrail f root ks → ((k : Plug) → In k ks → label_at p k.hole ≡ k.label) → (l : ℕ) → IsPlaced (state root ks) l → Below f p root l
below_placed f p root [] t x l (inl e) = subst (λ z. Below f p root z) (sym e) (at root)
below_placed f p root [] t x l (inr k) = absurd (in_of [] k.0 k.1)
below_placed f p root (y ∷ ks) t x l (inl e) = subst (λ z. Below f p root z) (sym e) (at root)
below_placed f p root (y ∷ ks) t x l (inr k) = go (in_of (y ∷ ks) k.0 k.1) (below_placed f p root ks t.0 (λ j i. x j (inr i)))
  where
    go : In k.0 (y ∷ ks) → ((n : ℕ) → IsPlaced (state root ks) n → Below f p root n) → Below f p root l
    go (inl e) rest =
        let o = t.1.owner in
        down root o.label l (rest o.label t.1.placed)
        (record { by = o; there = t.1.there; from = refl; to = ap (label_at p) t.1.hole ∙ x y (inl refl) ∙ ap label_of (sym e) ∙ k.2 })
    go (inr i) rest = rest l (inr (k.0, contains_of ks k.0 i, k.2))

module _ (f : Frame) (root : ℕ) (ks : List Plug) (p : Plugged) (trail : IsTrail f root ks) (apart : AreApart f.openings) (full : IsFull f (state root ks)) (x : Extends (state root ks) p) where
  -- each opening leads to what is plugged into its hole
  led_by : (o : Opening) → In o f.openings → (k : Plug) × In k ks × (k.hole ≡ o.hole) × (label_at p o.hole ≡ k.label)
  led_by o i =
      let k = full.holes o (contains_of f.openings o i) in
      (k.0, in_of ks k.0 k.1, k.2, ap (label_at p) (sym k.2) ∙ x.plugs k.0 k.1)

  one_hole : (l : ℕ) (o j : Opening) → In o f.openings → In j f.openings → label_at p o.hole ≡ l → label_at p j.hole ≡ l → o.hole ≡ j.hole
  one_hole l o j a b d e =
      let k = led_by o a in
      let m = led_by j b in
      let same : k.0 ≡ m.0 = one_plug f root ks trail k.0 m.0 k.1 m.1 (sym k.3 ∙ d ∙ sym e ∙ m.3) in
      sym k.2 ∙ ap hole_of same ∙ m.2

  led_one : (k : Plug) → In k ks → times_led f.openings p k.label ≡ 1
  led_one k i =
      let o = owner_in f root ks trail k i in
      let to : label_at p o.0.hole ≡ k.label = ap (label_at p) o.2 ∙ x.plugs k (contains_of ks k i) in
      let some = led_some p k.label f.openings o.0 (in_of f.openings o.0 o.1) to in
      let most = few p k.label f.openings apart (one_hole k.label) in
      omega (arith, some, most)

  pub tree : IsTree f p
  tree = record {
    root = subst (λ z. times_led f.openings p z ≡ 0) (sym x.root) (none_led p root f.openings (λ o i e. (let k = led_by o i in not_root f root ks trail k.0 k.1 (sym k.3 ∙ e))));
    once = λ l is. by_place l (full.labels l is);
    reached = λ l is. subst (λ z. Below f p z l) (sym x.root) (below_placed f p root ks trail (λ k i. x.plugs k (contains_of ks k i)) l (full.labels l is));
  }
    where
      by_place : (l : ℕ) → IsPlaced (state root ks) l → (l ≡ p.top) ⊎ (times_led f.openings p l ≡ 1)
      by_place l (inl e) = inl (e ∙ sym x.root)
      by_place l (inr k) = inr (subst (λ z. times_led f.openings p z ≡ 1) k.2 (led_one k.0 (in_of ks k.0 k.1)))

  pub led_once_by : IsLedOnce f p
  led_once_by = record { root = tree.root; once = λ l. few p l f.openings apart (one_hole l) }
