-- Which open holes a label may go under.
use Rattle.std.proofs.Common.{ℕ, zero, suc, ◌≡◌, ◌≢◌, ◌<◌, ◌≤◌, ◌⊎◌, inl, inr, ◌∙◌, Bool, true, false, List, [], ◌∷◌, length, refl, sym, ap, subst, arith}
use Rattle.std.specs.Prelude.{Contains, slice_index_or, Some, ◌||◌}
use Rattle.scope_model.specs.declared.Opening.{Opening}
use Rattle.scope_model.specs.declared.Plug.{Plug}
use Rattle.scope_model.specs.Frames.{Frame}
use Rattle.scope_model.specs.Readings.{Plugged, IsLabel, label_at, Below, Reaches, IsReading}
use Rattle.scope_model.specs.States.{State, IsPlaced, IsOpen, IsFromTop, Extends, GoesUnder, IsOnWay, IsDead}
use Rattle.scope_model.proofs.Lists.{In, in_of, contains_of}
use Rattle.scope_model.proofs.Led.{led_once_in}
use Rattle.scope_model.proofs.Under.{homes, placed_above}
use Rattle.scope_model.proofs.Allowed.{mask, mask_bodies}
use Rattle.scope_model.proofs.Ends.{together, dead_above}
use Rattle.scope_resolve.specs.declared.hole_set.HoleSet.{HoleSet}
use Rattle.scope_resolve.specs.declared.plan.Under.{Under}
use Rattle.scope_resolve.specs.declared.plan.Link.{Link}
use Rattle.scope_resolve.specs.declared.ways.Ways.{Ways}
use Rattle.scope_resolve.specs.declared.trail.Trail.{Trail}
use Rattle.scope_resolve.specs.Inner.Ways.{plugged_at}
use Rattle.scope_resolve.specs.Inner.Filling.{path, state_of}
use Rattle.scope_resolve.specs.Inner.Masks.{has, set_at, every, IsAt}
use Rattle.scope_resolve.specs.Inner.Pruning.{IsUnderIn, IsHoleChain, IsRootChain, IsPair, IsSeen, MayGo, AreMasks, AreSeats}
use Rattle.scope_resolve.proofs.Climbs.{plugged_of}

-- tables of sets
past : (sets : List HoleSet) (l : ℕ) → length sets ≤ l → set_at sets l ≡ every
past [] l m = refl
past (x ∷ sets) zero m = absurd (omega (arith, m))
past (x ∷ sets) (suc l) m = past sets l (omega (arith, m))

-- a table that was filled anew
pub wide : (sets : List HoleSet) (k : ℕ) (all : HoleSet) → length sets ≤ k → all ≡ every → ((i : ℕ) → has all i ≡ true) → ((l i : ℕ) → l < k → has (set_at sets l) i ≡ true)
    → (l i : ℕ) → has (set_at sets l) i ≡ true
wide sets k all le e is each l i = by_place (lower_or l k)
  where
    lower_or : (a b : ℕ) → (a < b) ⊎ (b ≤ a)
    lower_or a zero = inr (omega arith)
    lower_or zero (suc b) = inl (omega arith)
    lower_or (suc a) (suc b) = elim (lower_or a b) [ inl m ↦ inl (omega (arith, m)) | inr m ↦ inr (omega (arith, m)) ]

    by_place : (l < k) ⊎ (k ≤ l) → has (set_at sets l) i ≡ true
    by_place (inl m) = each l i m
    by_place (inr m) = subst (λ (z : HoleSet). has z i ≡ true) (e ∙ sym (past sets l (omega (arith, le, m)))) (is i)

one_of : (a b : Bool) → (a ≡ true) ⊎ (b ≡ true) → (a || b) ≡ true
one_of true b w = refl
one_of false true w = refl
one_of false false (inl e) = e
one_of false false (inr e) = e

module _ (f : Frame) (s : State) (w : Ways) (seen : IsSeen f s w) where
  abbrev opens : List Opening
  opens = w.opens.items

  pub never_placed : (l : ℕ) → IsLabel f l → slice_index_or w.placed.items l false ≡ false → IsPlaced s l → ⊥
  never_placed l is n p = let z : true ≡ false = sym ((seen.placed l is).1 p) ∙ n in absurd (cc)

  open_at : (place : ℕ) (o : Opening) → IsAt opens place o → IsOpen f s o
  open_at place o a = (seen.opens o).0 (place, a.0, a.1)

  -- a label under a hole of one that is plugged in
  one_side : (hole label place : ℕ) (m : MayGo f s opens label place) (r : Opening) → Contains f.openings r → IsPlaced s r.label → r.hole ≡ hole → Below f m.plugged (label_at m.plugged hole) label → has (set_at w.below.items hole) place ≡ true
  one_side hole label place m r c p e b =
      let g = mask f s m.plugged (led_once_in f m.plugged m.reading) seen.top m.on r m.opening label c p (subst (λ h. Below f m.plugged (label_at m.plugged h) label) (sym e) b) m.under in
      seen.below place m.opening hole m.there (subst (λ h. (m.opening.hole ≡ h) ⊎ IsOnWay f s h m.opening.label) e g)

  pub under_has : (u : Under) → IsUnderIn f u → slice_index_or w.placed.items u.owner false ≡ true → (a b j : HoleSet) → a ≡ set_at w.below.items u.first → b ≡ set_at w.below.items u.second
      → ((i : ℕ) → has j i ≡ (has a i || has b i)) → (place : ℕ) → MayGo f s opens u.label place → has j place ≡ true
  under_has u is y a b j ea eb ej place m = ej place ∙ one_of (has a place) (has b place) (by_side (is.below m.plugged m.reading))
    where
      owner : IsPlaced s u.owner
      owner = (seen.placed u.owner is.owner).0 y

      by_side : Below f m.plugged (label_at m.plugged u.first) u.label ⊎ Below f m.plugged (label_at m.plugged u.second) u.label → (has a place ≡ true) ⊎ (has b place ≡ true)
      by_side (inl d) = inl (subst (λ (z : HoleSet). has z place ≡ true) (sym ea) (one_side u.first u.label place m is.first.0 is.first.1 (subst (IsPlaced s) (sym is.first.3) owner) is.first.2 d))
      by_side (inr d) = inr (subst (λ (z : HoleSet). has z place ≡ true) (sym eb) (one_side u.second u.label place m is.second.0 is.second.1 (subst (IsPlaced s) (sym is.second.3) owner) is.second.2 d))

  pub under_on : (u : Under) → IsUnderIn f u → slice_index_or w.placed.items u.owner false ≡ true → (a b j : HoleSet) → a ≡ set_at w.below.items u.first → b ≡ set_at w.below.items u.second
      → ((i : ℕ) → has j i ≡ (has a i || has b i)) → (old new : List HoleSet) → ((l i : ℕ) → has (set_at old l) i ≡ true → (l ≡ u.label → has j i ≡ true) → has (set_at new l) i ≡ true)
      → AreMasks f s opens old → AreMasks f s opens new
  under_on u is y a b j ea eb ej old new on are l i m = on l i (are l i m) (λ e. under_has u is y a b j ea eb ej i (subst (λ v. MayGo f s opens v i) e m))

  -- a label that is reached from one that is plugged in
  pub along_on : (k : Link) → IsPlaced s k.from → ((p : Plugged) → IsReading f p → Extends s p → Reaches f p k.from k.to) → (x : HoleSet) → x ≡ set_at w.chain.items k.from
      → (old new : List HoleSet) → ((l i : ℕ) → has (set_at old l) i ≡ true → (l ≡ k.to → has x i ≡ true) → has (set_at new l) i ≡ true) → AreMasks f s opens old → AreMasks f s opens new
  along_on k here reaches x ex old new on are l i m = on l i (are l i m) (λ e. reached (subst (λ v. MayGo f s opens v i) e m))
    where
      reached : MayGo f s opens k.to i → has x i ≡ true
      reached g =
          let q = mask_bodies f s g.plugged (led_once_in f g.plugged g.reading) seen.top g.on seen.bodies k.from k.to g.opening here (reaches g.plugged g.reading g.on) g.under in
          subst (λ (z : HoleSet). has z i ≡ true) (sym ex) (seen.chain i g.opening q.0 k.from g.there q.1 q.2 q.3 q.4)

  pub placed_from : (l : ℕ) → IsLabel f l → slice_index_or w.placed.items l false ≡ true → IsPlaced s l
  placed_from l is y = (seen.placed l is).0 y

  -- labels that go together
  module _ (k : Link) (is : IsPair f k) (n : slice_index_or w.placed.items k.from false ≡ false) where
    pub goes_down : (i : ℕ) → MayGo f s opens k.from i → MayGo f s opens k.to i
    goes_down i m = record {
      plugged = m.plugged;
      reading = m.reading;
      on = m.on;
      opening = m.opening;
      there = m.there;
      under = (together f s seen.top k.from k.to is.below is.from (never_placed k.from is.from n) m.plugged m.reading m.on m.opening).0 m.under;
    }

    pub goes_up : (i : ℕ) → MayGo f s opens k.to i → MayGo f s opens k.from i
    goes_up i m = record {
      plugged = m.plugged;
      reading = m.reading;
      on = m.on;
      opening = m.opening;
      there = m.there;
      under = (together f s seen.top k.from k.to is.below is.from (never_placed k.from is.from n) m.plugged m.reading m.on m.opening).1 m.under;
    }

    pub together_on : (above below : HoleSet) (old mid new : List HoleSet) → above ≡ set_at old k.from → below ≡ set_at old k.to
        → ((l i : ℕ) → has (set_at old l) i ≡ true → (l ≡ k.from → has below i ≡ true) → has (set_at mid l) i ≡ true)
        → ((l i : ℕ) → has (set_at mid l) i ≡ true → (l ≡ k.to → has above i ≡ true) → has (set_at new l) i ≡ true) → AreMasks f s opens old → AreMasks f s opens new
    together_on above below old mid new ea eb one two are l i m =
        two l i (one l i (are l i m) (λ e. subst (λ (z : HoleSet). has z i ≡ true) (sym eb) (are k.to i (goes_down i (subst (λ v. MayGo f s opens v i) e m)))))
        (λ e. subst (λ (z : HoleSet). has z i ≡ true) (sym ea) (are k.from i (goes_up i (subst (λ v. MayGo f s opens v i) e m))))

    -- one that is plugged in below one that isn't
    pub torn : slice_index_or w.placed.items k.to false ≡ true → IsDead f s
    torn y = dead_above f s seen.top k.from k.to is.below is.from (never_placed k.from is.from n) ((seen.placed k.to is.to).0 y)

    -- the lower of the two stands in no open hole
    pub waits : k.from ≢ k.to → (p : Plugged) → IsReading f p → Extends s p → (i : ℕ) (o : Opening) → IsAt opens i o → label_at p o.hole ≡ k.to → ⊥
    waits other p r x i o a e = by_place (placed_above f after p (led_once_in f p r) top_after on_after k.from k.to (is.below p r) (inr (j, contains_of (j ∷ s.plugs) j (inl refl), e)))
      where
        j : Plug
        j = record { hole = o.hole; label = label_at p o.hole }

        after : State
        after = record { root = s.root; plugs = j ∷ s.plugs }

        stays : (l : ℕ) → IsPlaced s l → IsPlaced after l
        stays l (inl d) = inl d
        stays l (inr d) = inr (d.0, contains_of (j ∷ s.plugs) d.0 (inr (in_of s.plugs d.0 d.1)), d.2)

        top_in : (z : Plug) → In z (j ∷ s.plugs) → (v : Opening) × Contains f.openings v × (v.hole ≡ z.hole) × IsPlaced after v.label
        top_in z (inl d) = (o, (open_at i o a).there, ap (λ (y : Plug). y.hole) (sym d), stays o.label (open_at i o a).placed)
        top_in z (inr d) = let v = seen.top z (contains_of s.plugs z d) in (v.0, v.1, v.2, stays v.0.label v.3)

        top_after : IsFromTop f after
        top_after z c = top_in z (in_of (j ∷ s.plugs) z c)

        plug_in : (z : Plug) → In z (j ∷ s.plugs) → label_at p z.hole ≡ z.label
        plug_in z (inl d) = subst (λ (y : Plug). label_at p y.hole ≡ y.label) (sym d) refl
        plug_in z (inr d) = x.plugs z (contains_of s.plugs z d)

        on_after : Extends after p
        on_after = record { root = x.root; plugs = λ z c. plug_in z (in_of (j ∷ s.plugs) z c) }

        by_plug : (z : Plug) → In z (j ∷ s.plugs) → z.label ≡ k.from → ⊥
        by_plug z (inl d) g = other (sym g ∙ (ap (λ (y : Plug). y.label) d ∙ e))
        by_plug z (inr d) g = never_placed k.from is.from n (inr (z, contains_of s.plugs z d, g))

        by_place : IsPlaced after k.from → ⊥
        by_place (inl d) = never_placed k.from is.from n (inl d)
        by_place (inr d) = by_plug d.0 (in_of (j ∷ s.plugs) d.0 d.1) d.2

    pub waits_on : k.from ≢ k.to → (x : HoleSet) (old new : List HoleSet) → ((l i : ℕ) → has (set_at old l) i ≡ true → (l ≡ k.to → has x i ≡ true) → has (set_at new l) i ≡ true)
        → AreSeats f s opens old → AreSeats f s opens new
    waits_on other x old new on are p r y i o a = on (label_at p o.hole) i (are p r y i o a) (λ e. absurd (waits other p r y i o a e))

  -- a label with no open hole left
  pub homeless : (l : ℕ) (sets : List HoleSet) → IsLabel f l → slice_index_or w.placed.items l false ≡ false → ((i : ℕ) → has (set_at sets l) i ≡ false) → AreMasks f s opens sets → IsDead f s
  homeless l sets is n empty are p r x = by_home ((homes f s p (led_once_in f p r) seen.top x).each l (r.tree.reached l is))
    where
      by_home : IsPlaced s l ⊎ ((o : Opening) × GoesUnder f s p o l) → ⊥
      by_home (inl here) = never_placed l is n here
      by_home (inr g) =
          let c = (seen.opens g.0).1 g.1.open_hole in
          let y = are l c.0 (record { plugged = p; reading = r; on = x; opening = g.0; there = (c.1, c.2); under = g.1 }) in
          let z : true ≡ false = sym y ∙ empty c.0 in
          absurd (cc)

  -- what goes into an open hole goes under it
  pub seated : (sets : List HoleSet) → AreMasks f s opens sets → AreSeats f s opens sets
  seated sets are p r x i o a = are (label_at p o.hole) i (record { plugged = p; reading = r; on = x; opening = o; there = a; under = (homes f s p (led_once_in f p r) seen.top x).filled o (open_at i o a) })

-- one that is reached from a hole with a label
pub hole_reaches : (f : Frame) (t : Trail) (k : Link) (a : ℕ) → IsHoleChain f k → Some a ≡ plugged_at k.from (path t) → IsPlaced (state_of t) a × ((p : Plugged) → IsReading f p → Extends (state_of t) p → Reaches f p a k.to)
hole_reaches f t k a is e =
    let j = plugged_of k.from a (path t) (sym e) in
    let c = contains_of (path t) j.0 j.1 in
    (inr (j.0, c, j.3), λ p r x. subst (λ z. Reaches f p z k.to) (ap (label_at p) (sym j.2) ∙ (x.plugs j.0 c ∙ j.3)) (is p r))

pub root_reaches : (f : Frame) (s : State) (root l : ℕ) → s.root ≡ root → IsRootChain f l → IsPlaced s root × ((p : Plugged) → IsReading f p → Extends s p → Reaches f p root l)
root_reaches f s root l e is = (inl (sym e), λ p r x. subst (λ z. Reaches f p z l) (x.root ∙ e) (is p r))
