-- One more plug.
use Rattle.std.proofs.Common.{ℕ, zero, suc, ◌≡◌, ◌≢◌, ◌<◌, ◌≤◌, ◌+◌, ◌⊎◌, inl, inr, ◌∙◌, Bool, true, false, List, [], ◌∷◌, ◌++◌, length, get_or, take, refl, sym, ap, subst, arith, ◌==◌}
use Rattle.std.specs.Prelude.{◌↔◌, IsTrue, Contains, if◌then◌else◌, reverse, Some, None}
use Rattle.std.proofs.lemmas.Bool.{eq-eqb, eqb-true, eqb-false, ne_eqb}
use Rattle.std.proofs.lemmas.List.{take_more}
use Rattle.std.proofs.lemmas.List.Elements.{Contains-append_left, Contains-append_cases}
use Rattle.scope_model.specs.declared.Opening.{Opening}
use Rattle.scope_model.specs.declared.Plug.{Plug}
use Rattle.scope_model.specs.Frames.{Frame}
use Rattle.scope_model.specs.Readings.{Plugged, IsLabel, IsHole, label_at, IsReading}
use Rattle.scope_model.specs.States.{IsPlaced, IsFilled, IsOpen, IsFull, IsTrail, MayPlug, IsWellPlugged, Extends, HasLabels, AreOnce, state}
use Rattle.scope_model.proofs.Lists.{In, in_of, contains_of, of_map, in_at}
use Rattle.scope_model.proofs.Under.{filled_or}
use Rattle.scope_model.proofs.Going.{full_at}
use Rattle.scope_model.proofs.Plugs.{found}
use Rattle.scope_resolve.specs.declared.nets.Net.{Net}
use Rattle.scope_resolve.specs.declared.trail.Trail.{Trail}
use Rattle.scope_resolve.specs.Inner.Ways.{placed_in, plugged_at, is_there, cost, left_in}
use Rattle.scope_resolve.specs.Inner.Nets.{IsNet, frame_in}
use Rattle.scope_resolve.specs.Inner.Filling.{IsGoing, IsKept, IsOpenAt, path, state_of, AreFound, GoesOn, HasAt, HasOneOf}
use Rattle.scope_resolve.proofs.Climbs.{placed_of, not_placed, plugged_of, not_plugged}
use Rattle.scope_resolve.proofs.Founds.{found_none, found_on, found_as}
use Rattle.scope_resolve.proofs.Tests.{yes, no, push_back, take_whole}

-- whether a label is plugged in
pub there_of : (root l : ℕ) (ks : List Plug) → is_there root l ks ≡ true → IsPlaced (state root ks) l
there_of root l ks e = by_test (l == root) refl e
  where
    by_test : (b : Bool) → b ≡ (l == root) → (if b then true else placed_in l ks) ≡ true → IsPlaced (state root ks) l
    by_test true q m = inl (eqb-true l root (sym q))
    by_test false q m = let k = placed_of l ks m in inr (k.0, contains_of ks k.0 k.1, k.2)

pub not_there : (root l : ℕ) (ks : List Plug) → is_there root l ks ≡ false → IsPlaced (state root ks) l → ⊥
not_there root l ks e p = by_test (l == root) refl e p
  where
    by_test : (b : Bool) → b ≡ (l == root) → (if b then true else placed_in l ks) ≡ false → IsPlaced (state root ks) l → ⊥
    by_test true q m w = let v : true ≡ false = m in absurd (cc)
    by_test false q m (inl d) = eqb-false l root (sym q) d
    by_test false q m (inr k) = not_placed l ks m k.0 (in_of ks k.0 k.1) k.2

pub placed_same : (root l : ℕ) (ks : List Plug) (r : Bool) → r ≡ is_there root l ks → IsTrue r ↔ IsPlaced (state root ks) l
placed_same root l ks true e = (λ y. there_of root l ks (sym e), λ p. refl)
placed_same root l ks false e = (λ y. absurd (cc), λ p. absurd (not_there root l ks (sym e) p))

pub filled_yes : (root h l : ℕ) (ks : List Plug) → Some l ≡ plugged_at h ks → IsTrue true ↔ IsFilled (state root ks) h
filled_yes root h l ks e = let k = plugged_of h l ks (sym e) in (λ _. (k.0, contains_of ks k.0 k.1, k.2), λ _. refl)

pub filled_no : (root h : ℕ) (ks : List Plug) → None ≡ plugged_at h ks → IsTrue false ↔ IsFilled (state root ks) h
filled_no root h ks e = (λ y. absurd (cc), λ k. absurd (not_plugged h ks (sym e) k.0 (in_of ks k.0 k.1) k.2))

-- fewer labels are left
module _ (root : ℕ) (k : Plug) (ks : List Plug) where
  stays : (l : ℕ) → is_there root l ks ≡ true → is_there root l (k ∷ ks) ≡ true
  stays l e = by_root (l == root) e
    where
      by_root : (b : Bool) → (if b then true else placed_in l ks) ≡ true → (if b then true else (if k.label == l then true else placed_in l ks)) ≡ true
      by_root true m = refl
      by_root false m = by_label (k.label == l)
        where
          by_label : (b : Bool) → (if b then true else placed_in l ks) ≡ true
          by_label true = refl
          by_label false = m

  one_more : (b c : Bool) → (b ≡ true → c ≡ true) → cost c ≤ cost b
  one_more true true w = let g : 0 ≤ 0 = omega arith in g
  one_more true false w = let e = w refl in absurd (cc)
  one_more false true w = let g : 0 ≤ 1 = omega arith in g
  one_more false false w = let g : 1 ≤ 1 = omega arith in g

  no_more : (ls : List ℕ) → left_in ls root (k ∷ ks) ≤ left_in ls root ks
  no_more [] = let g : 0 ≤ 0 = omega arith in g
  no_more (l ∷ ls) =
      let a = one_more (is_there root l ks) (is_there root l (k ∷ ks)) (stays l) in
      let b = no_more ls in
      let g : cost (is_there root l (k ∷ ks)) + left_in ls root (k ∷ ks) ≤ cost (is_there root l ks) + left_in ls root ks = omega (arith, a, b) in
      g

  came : is_there root k.label (k ∷ ks) ≡ true
  came = by_root (k.label == root)
    where
      by_root : (b : Bool) → (if b then true else (if k.label == k.label then true else placed_in k.label ks)) ≡ true
      by_root true = refl
      by_root false = yes (k.label == k.label) true (placed_in k.label ks) (eq-eqb k.label k.label refl)

  pub fewer : (ls : List ℕ) → In k.label ls → is_there root k.label ks ≡ false → left_in ls root (k ∷ ks) < left_in ls root ks
  fewer [] i e = absurd i
  fewer (l ∷ ls) (inl d) e =
      let b = no_more ls in
      let x : cost (is_there root l (k ∷ ks)) ≡ 0 = ap cost (subst (λ v. is_there root v (k ∷ ks) ≡ true) d came) in
      let y : cost (is_there root l ks) ≡ 1 = ap cost (subst (λ v. is_there root v ks ≡ false) d e) in
      let g : cost (is_there root l (k ∷ ks)) + left_in ls root (k ∷ ks) < cost (is_there root l ks) + left_in ls root ks = omega (arith, b, x, y) in
      g
  fewer (l ∷ ls) (inr i) e =
      let a = one_more (is_there root l ks) (is_there root l (k ∷ ks)) (stays l) in
      let b = fewer ls i e in
      let g : cost (is_there root l (k ∷ ks)) + left_in ls root (k ∷ ks) < cost (is_there root l ks) + left_in ls root ks = omega (arith, a, b) in
      g

-- where no hole is open and each label is plugged in, all is full
pub full_of : (f : Frame) (root : ℕ) (ks : List Plug) → HasLabels f → ((l : ℕ) → IsLabel f l → IsPlaced (state root ks) l) → ((o : Opening) → IsOpen f (state root ks) o → ⊥) → IsFull f (state root ks)
full_of f root ks has all closed = record {
  labels = all;
  holes = λ o c. elim (filled_or ks o.hole) [
    | inl k ↦ (k.0, contains_of ks k.0 k.1, k.2)
    | inr free ↦ absurd (closed o (record { there = c; placed = all o.label (has o c); free = λ j. free j.0 (in_of ks j.0 j.1) j.2 }))
  ];
}

own_at : (f : Frame) (p : Plugged) → IsReading f p → (h : ℕ) → IsHole f h → IsLabel f h → label_at p h ≡ h
own_at f p r h is label =
    let c = (r.plugging.every h).0 is in
    let k = of_map (λ (z : Plug). z.hole) h p.plugs (in_of _ h c) in
    let d = contains_of p.plugs k.0 k.1 in
    let own = subst (λ (s : Plug). IsLabel f s.hole → s.label ≡ s.hole) d.2 (r.plugging.own d.0 k.0 d.1) in
    ap (label_at p) (sym k.2) ∙ (found f p r.plugging k.0 k.1 ∙ (own (subst (IsLabel f) (sym k.2) label) ∙ k.2))

-- labels of which none stands twice
pub once_at : (ls : List ℕ) (i : ℕ) → AreOnce ls → i < length ls → In (get_or ls i 0) (take i ls) → ⊥
once_at [] i o l m = absurd (omega (arith, l))
once_at (x ∷ ls) zero o l m = m
once_at (x ∷ ls) (suc i) o l (inl e) = o.0 (contains_of ls x (subst (λ v. In v ls) e (in_at ls i 0 (omega (arith, l)))))
once_at (x ∷ ls) (suc i) o l (inr m) = once_at ls i o.1 (omega (arith, l)) m

module _ (n : Net) (t : Trail) (net : IsNet n) (going : IsGoing (frame_in n.parts) t) (max : ℕ) where
  abbrev f : Frame
  f = frame_in n.parts

  abbrev ks : List Plug
  ks = path t

  -- where a label isn't plugged in and no hole is open, no reading goes on
  pub unplaced_none : (l : ℕ) (old : List Plugged) → IsLabel f l → (IsPlaced (state_of t) l → ⊥) → ((o : Opening) → IsOpen f (state_of t) o → ⊥) → AreFound f (GoesOn (state_of t)) max true old old
  unplaced_none l old is never closed = found_none f max (GoesOn (state_of t)) old (λ p r x. never ((full_at f t.root ks p r going.trail x net.linked.labels closed).labels l is))

  module _ (hole label : ℕ) (o : IsOpenAt f (state_of t) hole) where
    abbrev k : Plug
    k = record { hole = hole; label = label }

    module _ (u : Trail) (root : u.root ≡ t.root) (plugs : u.plugs.items ≡ t.plugs.items ++ k ∷ []) where
      pub path_is : path u ≡ k ∷ ks
      path_is = ap reverse plugs ∙ push_back t.plugs.items k

      state_is : state t.root (k ∷ ks) ≡ state_of u
      state_is = λ j. state (sym root j) (sym path_is j)

      pub going_on : IsLabel f label → (IsPlaced (state_of t) label → ⊥) → (IsLabel f hole → label ≡ hole) → IsGoing f u
      going_on is new own = record {
        trail = subst (λ r. IsTrail f r (path u)) (sym root) (subst (IsTrail f t.root) (sym path_is) (going.trail, may));
        well = subst (λ r. IsWellPlugged f r (path u)) (sym root) (subst (IsWellPlugged f t.root) (sym path_is) well);
      }
        where
          may : MayPlug f (state t.root ks) k
          may = record {
            owner = o.opening;
            there = o.open_hole.there;
            hole = o.is;
            placed = o.open_hole.placed;
            free = λ w. o.open_hole.free (w.0, w.1, w.2 ∙ sym o.is);
            new = new;
          }

          label_of : (j : Plug) → In j (k ∷ ks) → IsLabel f j.label
          label_of j (inl e) = subst (λ (z : Plug). IsLabel f z.label) (sym e) is
          label_of j (inr i) = going.well.labels j (contains_of ks j i)

          own_of : (j : Plug) → In j (k ∷ ks) → IsLabel f j.hole → j.label ≡ j.hole
          own_of j (inl e) = subst (λ (z : Plug). IsLabel f z.hole → z.label ≡ z.hole) (sym e) own
          own_of j (inr i) = going.well.own j (contains_of ks j i)

          well : IsWellPlugged f t.root (k ∷ ks)
          well = record {
            top = going.well.top;
            labels = λ j c. label_of j (in_of (k ∷ ks) j c);
            own = λ j c. own_of j (in_of (k ∷ ks) j c);
          }

      pub found_at : (done : Bool) (old new : List Plugged) → AreFound f (GoesOn (state_of u)) max done old new → AreFound f (HasAt (state_of t) hole label) max done old new
      found_at done old new a =
          found_as f max (GoesOn (state t.root (k ∷ ks))) (HasAt (state_of t) hole label) done old new to back (subst (λ s. AreFound f (GoesOn s) max done old new) (sym state_is) a)
        where
          to : (p : Plugged) → Extends (state t.root (k ∷ ks)) p → HasAt (state_of t) hole label p
          to p x = (record { root = x.root; plugs = λ j c. x.plugs j (contains_of (k ∷ ks) j (inr (in_of ks j c))) }, x.plugs k (contains_of (k ∷ ks) k (inl refl)))

          back : (p : Plugged) → IsReading f p → HasAt (state_of t) hole label p → Extends (state t.root (k ∷ ks)) p
          back p r h = record { root = h.0.root; plugs = λ j c. by_place j (in_of (k ∷ ks) j c) }
            where
              by_place : (j : Plug) → In j (k ∷ ks) → label_at p j.hole ≡ j.label
              by_place j (inl e) = subst (λ (z : Plug). label_at p z.hole ≡ z.label) (sym e) h.1
              by_place j (inr i) = h.0.plugs j (contains_of ks j i)

      pub work_falls : Contains n.labels.items label → (IsPlaced (state_of t) label → ⊥) → left_in n.labels.items u.root (path u) < left_in n.labels.items t.root (path t)
      work_falls c new =
          let e : is_there t.root label ks ≡ false = by_test (is_there t.root label ks) refl in
          subst (λ r. left_in n.labels.items r (path u) < left_in n.labels.items t.root ks) (sym root)
          (subst (λ ls. left_in n.labels.items t.root ls < left_in n.labels.items t.root ks) (sym path_is) (fewer t.root k ks n.labels.items (in_of n.labels.items label c) e))
        where
          by_test : (b : Bool) → b ≡ is_there t.root label ks → is_there t.root label ks ≡ false
          by_test true q = absurd (new (there_of t.root label ks (sym q)))
          by_test false q = sym q

  -- some labels in turn
  module _ (hole : ℕ) (ls : List ℕ) (once : AreOnce ls) where
    abbrev one_of : List ℕ → Plugged → Type 0
    one_of xs = HasOneOf (state_of t) hole xs

    apart : (i l : ℕ) → i < length ls → l ≡ get_or ls i 0 → (p : Plugged) → one_of (take i ls) p → HasAt (state_of t) hole l p → ⊥
    apart i l lt e p a b = once_at ls i once lt (subst (λ v. In v (take i ls)) (b.1 ∙ e) (in_of _ _ a.1))

    pub one_on : (i l : ℕ) (old mid new : List Plugged) → i < length ls → l ≡ get_or ls i 0 → AreFound f (one_of (take i ls)) max true old mid → AreFound f (HasAt (state_of t) hole l) max true mid new
        → AreFound f (one_of (take (i + 1) ls)) max true old new
    one_on i l old mid new lt e a b =
        subst (λ ks. AreFound f (one_of ks) max true old new) (sym (take_more ls i 0 lt ∙ ap (λ v. take i ls ++ v ∷ []) (sym e)))
        (found_on f max (one_of (take i ls)) (HasAt (state_of t) hole l) (one_of (take i ls ++ l ∷ [])) true old mid new a b (apart i l lt e)
        (λ p h. (h.0, Contains-append_left (take i ls) (l ∷ []) _ h.1))
        (λ p h. (h.0, contains_of _ _ (subst (λ v. In v (take i ls ++ l ∷ [])) (sym h.1) (at_end (take i ls) l))))
        (λ y p r h. by_side p h.0 (Contains-append_cases (take i ls) (l ∷ []) _ h.1)))
      where
        at_end : (xs : List ℕ) (v : ℕ) → In v (xs ++ v ∷ [])
        at_end [] v = inl refl
        at_end (x ∷ xs) v = inr (at_end xs v)

        by_side : (p : Plugged) → Extends (state_of t) p → Contains (take i ls) (label_at p hole) ⊎ Contains (l ∷ []) (label_at p hole) → one_of (take i ls) p ⊎ HasAt (state_of t) hole l p
        by_side p x (inl c) = inl (x, c)
        by_side p x (inr c) = inr (x, by_only (in_of (l ∷ []) (label_at p hole) c))
          where
            by_only : In (label_at p hole) (l ∷ []) → label_at p hole ≡ l
            by_only (inl d) = d
            by_only (inr j) = absurd j

    pub one_over : (i l : ℕ) (old mid new : List Plugged) → i < length ls → l ≡ get_or ls i 0 → AreFound f (one_of (take i ls)) max true old mid → AreFound f (HasAt (state_of t) hole l) max false mid new
        → AreFound f (GoesOn (state_of t)) max false old new
    one_over i l old mid new lt e a b =
        found_on f max (one_of (take i ls)) (HasAt (state_of t) hole l) (GoesOn (state_of t)) false old mid new a b (apart i l lt e) (λ p h. h.0) (λ p h. h.0) (λ y. absurd (cc))

    pub one_end : (i : ℕ) (old new : List Plugged) → length ls ≤ i → ((p : Plugged) → IsReading f p → Extends (state_of t) p → Contains ls (label_at p hole)) → AreFound f (one_of (take i ls)) max true old new → AreFound f (GoesOn (state_of t)) max true old new
    one_end i old new l all a =
        found_as f max (one_of ls) (GoesOn (state_of t)) true old new (λ p h. h.0) (λ p r x. (x, all p r x)) (subst (λ ks. AreFound f (one_of ks) max true old new) (take_whole ls i l) a)

-- what is_placed answers
pub there_root : (root l : ℕ) (ks : List Plug) → l ≡ root → true ≡ is_there root l ks
there_root root l ks e = sym (yes (l == root) true (placed_in l ks) (eq-eqb l root e))

pub there_else : (root l : ℕ) (ks : List Plug) (r : Bool) → l ≢ root → r ≡ placed_in l ks → r ≡ is_there root l ks
there_else root l ks r d e = e ∙ sym (no (l == root) true (placed_in l ks) (ne_eqb l root d))

-- a trail that is as it was
pub state_kept : (a b : Trail) → IsKept a b → state_of a ≡ state_of b
state_kept a b k = let r = k.root in let p = k.plugs in λ j. state (r j) (reverse (p j))

pub going_kept : (f : Frame) (a b : Trail) → IsKept a b → IsGoing f b → IsGoing f a
going_kept f a b k g = record {
  trail = subst (λ s. IsTrail f s.root s.plugs) (sym (state_kept a b k)) g.trail;
  well = subst (λ s. IsWellPlugged f s.root s.plugs) (sym (state_kept a b k)) g.well;
}

pub open_kept : (f : Frame) (a b : Trail) (hole : ℕ) → IsKept a b → IsOpenAt f (state_of b) hole → IsOpenAt f (state_of a) hole
open_kept f a b hole k o = subst (λ s. IsOpenAt f s hole) (sym (state_kept a b k)) o

pub work_kept : (ls : List ℕ) (a b : Trail) → IsKept a b → left_in ls a.root (path a) ≡ left_in ls b.root (path b)
work_kept ls a b k = ap (λ s. left_in ls s.root s.plugs) (state_kept a b k)

pub at_kept : (f : Frame) (a b : Trail) (hole label max : ℕ) (done : Bool) (old new : List Plugged) → IsKept a b → AreFound f (HasAt (state_of a) hole label) max done old new → AreFound f (HasAt (state_of b) hole label) max done old new
at_kept f a b hole label max done old new k = subst (λ s. AreFound f (HasAt s hole label) max done old new) (state_kept a b k)
