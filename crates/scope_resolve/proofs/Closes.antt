-- Where each hole has a label, there is one reading or none.
use Rattle.std.proofs.Common.{ℕ, ◌≡◌, ◌<◌, ◌+◌, ◌≤◌, inl, inr, ◌∙◌, Bool, true, false, List, [], ◌∷◌, ◌++◌, map, length, get_or, take, refl, sym, ap, subst, arith, ◌==◌}
use Rattle.std.specs.Prelude.{◌↔◌, IsTrue, Contains, Some, if◌then◌else◌, slice_index}
use Rattle.std.proofs.lemmas.Bool.{eqb-true, eqb-false}
use Rattle.std.proofs.lemmas.List.{take_more, length-map}
use Rattle.mrs_text.specs.Written.{or_zero}
use Rattle.scope_model.specs.declared.Plug.{Plug}
use Rattle.scope_model.specs.declared.Plugging.{Plugging}
use Rattle.scope_model.specs.Frames.{Frame}
use Rattle.scope_model.specs.Readings.{Plugged, IsHole, Rise, label_at, IsPlugging, IsReading}
use Rattle.scope_model.specs.States.{IsFull, IsTrail, IsSound, Extends}
use Rattle.scope_model.specs.Answers.{plug_of, plugged_of as read_of}
use Rattle.scope_model.proofs.Lists.{In, in_of, contains_of, of_map}
use Rattle.scope_model.proofs.Full.{owner_in}
use Rattle.scope_model.proofs.Whole.{opening_at, hole_is, whole}
use Rattle.scope_model.proofs.Going.{plugging_of}
use Rattle.scope_model.proofs.Plugs.{one_plugging}
use Rattle.scope_resolve.specs.declared.nets.Net.{Net}
use Rattle.scope_resolve.specs.declared.trail.Trail.{Trail}
use Rattle.scope_resolve.specs.Inner.Ways.{plugged_at}
use Rattle.scope_resolve.specs.Inner.Nets.{IsNet, frame_in}
use Rattle.scope_resolve.specs.Inner.Filling.{IsGoing, path, state_of, AreFound, GoesOn, plug_here, plugged_here}
use Rattle.scope_resolve.proofs.Founds.{found_none, found_one}

in_map : {A B : Type 0} (g : A → B) (xs : List A) (x : A) → In x xs → In (g x) (map g xs)
in_map g [] x i = absurd i
in_map g (y ∷ xs) x (inl e) = inl (ap g e)
in_map g (y ∷ xs) x (inr i) = inr (in_map g xs x i)

holes_here : (ks : List Plug) (hs : List ℕ) → map (λ (k : Plug). k.hole) (map (plug_here ks) hs) ≡ hs
holes_here ks [] = refl
holes_here ks (h ∷ hs) = ap (λ l. h ∷ l) (holes_here ks hs)

module _ (n : Net) (t : Trail) (net : IsNet n) (going : IsGoing (frame_in n.parts) t) (full : IsFull (frame_in n.parts) (state_of t)) where
  abbrev f : Frame
  f = frame_in n.parts

  abbrev ks : List Plug
  ks = path t

  -- the plug of a hole is found
  found_in : (ls : List Plug) → IsTrail f t.root ls → (k : Plug) → In k ls → plugged_at k.hole ls ≡ Some k.label
  found_in [] w k i = absurd i
  found_in (x ∷ ls) w k i = by_test (x.hole == k.hole) refl i (λ j. found_in ls w.0 k j)
    where
      by_test : (b : Bool) → b ≡ (x.hole == k.hole) → In k (x ∷ ls) → (In k ls → plugged_at k.hole ls ≡ Some k.label) → (if b then Some x.label else plugged_at k.hole ls) ≡ Some k.label
      by_test true q (inl e) rest = ap (λ (z : Plug). Some z.label) (sym e)
      by_test true q (inr j) rest = absurd (w.1.free (k, contains_of ls k j, sym (eqb-true x.hole k.hole (sym q))))
      by_test false q (inl e) rest = absurd (eqb-false x.hole k.hole (sym q) (ap (λ (z : Plug). z.hole) (sym e)))
      by_test false q (inr j) rest = rest j

  here_is : (k : Plug) → In k ks → plug_here ks k.hole ≡ k
  here_is k i =
      let e : or_zero (plugged_at k.hole ks) ≡ k.label = ap or_zero (found_in ks going.trail k i) in
      λ j. record { hole = k.hole; label = e j }

  abbrev plugs : List Plug
  plugs = map (plug_here ks) n.holes.items

  same : (k : Plug) → Contains plugs k ↔ Contains ks k
  same k = (λ c. to (of_map (plug_here ks) k n.holes.items (in_of plugs k c)), λ c. back (in_of ks k c))
    where
      to : (h : ℕ) × In h n.holes.items × (plug_here ks h ≡ k) → Contains ks k
      to r =
          let is = (net.holes r.0).0 (contains_of n.holes.items r.0 r.1) in
          let o = opening_at f.openings r.0 (in_of _ r.0 is) in
          let j = full.holes o.0 (contains_of f.openings o.0 o.1) in
          let i = in_of ks j.0 j.1 in
          let e : j.0 ≡ k = sym (here_is j.0 i) ∙ (ap (plug_here ks) (j.2 ∙ o.2) ∙ r.2) in
          subst (Contains ks) e j.1

      back : In k ks → Contains plugs k
      back i =
          let o = owner_in f t.root ks going.trail k i in
          let is : IsHole f k.hole = hole_is f o.0 k.hole o.1 o.2 in
          let j = in_map (plug_here ks) n.holes.items k.hole (in_of n.holes.items k.hole ((net.holes k.hole).1 is)) in
          contains_of plugs k (subst (λ z. In z plugs) (here_is k i) j)

  rise : Rise (map (λ (k : Plug). k.hole) plugs)
  rise = subst Rise (sym (holes_here ks n.holes.items)) net.rise

  abbrev it : Plugged
  it = plugged_here t n.holes.items

  is_plugging : IsPlugging f it × Extends (state_of t) it
  is_plugging = plugging_of f t.root ks plugs going.trail full going.well same rise

  one : (p : Plugged) → IsReading f p → GoesOn (state_of t) p → p ≡ it
  one p r x = one_plugging f p it r.plugging is_plugging.0 x.root by_hole
    where
      by_hole : (h : ℕ) → IsHole f h → label_at p h ≡ label_at it h
      by_hole h is =
          let o = opening_at f.openings h (in_of _ h is) in
          let k = full.holes o.0 (contains_of f.openings o.0 o.1) in
          let e = k.2 ∙ o.2 in
          ap (label_at p) (sym e) ∙ (x.plugs k.0 k.1 ∙ (sym (is_plugging.1.plugs k.0 k.1) ∙ ap (label_at it) e))

  is_whole : (p : Plugged) → Extends (state_of t) p → IsPlugging f p → IsSound f (state_of t) ↔ IsReading f p
  is_whole p x plugging = whole f t.root ks p going.trail net.apart full x net.linked.bodies net.linked.holes plugging

  pub closed_none : (max : ℕ) (old : List Plugged) (r : Bool) → IsTrue r ↔ IsSound f (state_of t) → r ≡ false → AreFound f (GoesOn (state_of t)) max true old old
  closed_none max old r same y = found_none f max (GoesOn (state_of t)) old (λ p read x. (let z : true ≡ false = sym (same.1 ((is_whole p x read.plugging).1 read)) ∙ y in absurd (cc)))

  pub closed_one : (max : ℕ) (old new : List Plugged) (r done : Bool) → IsTrue r ↔ IsSound f (state_of t) → r ≡ true → new ≡ old ++ it ∷ [] → (done ≡ false → max < length new) → (done ≡ true → length new ≤ max) → AreFound f (GoesOn (state_of t)) max done old new
  closed_one max old new r done same y e over few = found_one f max (GoesOn (state_of t)) done old new it e ((is_whole it is_plugging.1 is_plugging.0).0 (same.0 y)) is_plugging.1 one over few

  last_one : (old : List Plugging) (p : Plugging) → map read_of (old ++ p ∷ []) ≡ map read_of old ++ read_of p ∷ []
  last_one [] p = refl
  last_one (q ∷ old) p = ap (λ l. read_of q ∷ l) (last_one old p)

  pub closed_put : (max : ℕ) (old new : List Plugging) (p : Plugging) (r done : Bool) → IsTrue r ↔ IsSound f (state_of t) → r ≡ true → new ≡ old ++ p ∷ [] → read_of p ≡ it → (done ≡ false → max < length new) → (done ≡ true → length new ≤ max)
      → AreFound f (GoesOn (state_of t)) max done (map read_of old) (map read_of new)
  closed_put max old new p r done same y e is over few =
      let m = length-map new read_of in
      closed_one max (map read_of old) (map read_of new) r done same y (ap (map read_of) e ∙ (last_one old p ∙ ap (λ z. map read_of old ++ z ∷ []) is))
      (λ d. (let a = over d in omega (arith, a, m))) (λ d. (let a = few d in omega (arith, a, m)))

-- the plugs of the first holes, and one more
pub plugs_more : (ks : List Plug) (out : List (ℕ × ℕ)) (hs : List ℕ) (k h l : ℕ) (new : List (ℕ × ℕ)) → k < length hs → h ≡ slice_index hs k → map plug_of out ≡ map (plug_here ks) (take k hs)
    → new ≡ out ++ (h, l) ∷ [] → record { hole = h; label = l } ≡ plug_here ks h → map plug_of new ≡ map (plug_here ks) (take (k + 1) hs)
plugs_more ks out hs k h l new lt at so e is =
    ap (map plug_of) e ∙ (last plug_of out (h, l) ∙ (both ∙ (sym (last (plug_here ks) (take k hs) (get_or hs k 0)) ∙ ap (map (plug_here ks)) (sym (take_more hs k 0 lt)))))
  where
    last : {A B : Type 0} (g : A → B) (xs : List A) (x : A) → map g (xs ++ x ∷ []) ≡ map g xs ++ g x ∷ []
    last g [] x = refl
    last g (y ∷ xs) x = ap (λ l. g y ∷ l) (last g xs x)

    both : map plug_of out ++ record { hole = h; label = l } ∷ [] ≡ map (plug_here ks) (take k hs) ++ plug_here ks (get_or hs k 0) ∷ []
    both = ap (λ (xs : List Plug). xs ++ record { hole = h; label = l } ∷ []) so ∙ ap (λ (z : Plug). map (plug_here ks) (take k hs) ++ z ∷ []) (is ∙ ap (plug_here ks) at)
