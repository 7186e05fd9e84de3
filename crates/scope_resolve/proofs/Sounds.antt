-- What is asked of a full state, as it is read off the plugs.
use Rattle.std.proofs.Common.{ℕ, ◌≡◌, ◌≢◌, ◌⊎◌, inl, inr, ◌∙◌, Bool, true, false, List, [], ◌∷◌, refl, sym, ap, subst}
use Rattle.std.specs.Prelude.{◌↔◌, IsTrue, slice_index_or, Contains, Some, None, All}
use Rattle.scope_model.specs.declared.Binding.{Binding}
use Rattle.scope_model.specs.declared.Qeq.{Qeq}
use Rattle.scope_model.specs.declared.Plug.{Plug}
use Rattle.scope_model.specs.Frames.{Frame}
use Rattle.scope_model.specs.Readings.{IsLabel, IsHole}
use Rattle.scope_model.specs.States.{IsFull, IsTrail, IsOnWay, IsByBodies, StartsAt, by_plug, by_label, by_root, IsMet, IsUnder, IsSound}
use Rattle.scope_model.proofs.Lists.{In, in_of, contains_of}
use Rattle.scope_model.proofs.Whole.{opening_at, hole_is}
use Rattle.scope_model.proofs.Full.{owner_in}
use Rattle.scope_resolve.specs.declared.nets.Net.{Net}
use Rattle.scope_resolve.specs.declared.trail.Trail.{Trail}
use Rattle.scope_resolve.specs.Inner.Ways.{plugged_at, is_on_way, is_by_bodies}
use Rattle.scope_resolve.specs.Inner.Nets.{IsNet, frame_in}
use Rattle.scope_resolve.specs.Inner.Filling.{IsGoing, path, state_of}
use Rattle.scope_resolve.proofs.Climbs.{plugged_of, not_plugged, way_of, of_way, by_of, of_by}

module _ (n : Net) (t : Trail) (net : IsNet n) (going : IsGoing (frame_in n.parts) t) where
  abbrev f : Frame
  f = frame_in n.parts

  abbrev ks : List Plug
  ks = path t

  pub on_way : (h l : ℕ) → IsTrue (is_on_way n.owner.items h l ks) ↔ IsOnWay f (state_of t) h l
  on_way h l = (way_of f t.root n.owner.items net.owner ks going.trail h l, of_way f t.root n.owner.items net.owner ks going.trail h l)

  pub by_bodies : (a l : ℕ) → IsTrue (is_by_bodies n.owner.items n.is_body.items a l ks) ↔ IsByBodies f (state_of t) a l
  by_bodies a l = (
    by_of f t.root n.owner.items net.owner n.is_body.items net.linked.bodies net.body net.of_body ks going.trail a l,
    of_by f t.root n.owner.items net.owner n.is_body.items net.linked.bodies net.body net.of_body ks going.trail a l,
  )

  -- is_under
  pub under_first : (b : Binding) (r : Bool) → r ≡ is_on_way n.owner.items b.rstr b.label ks → r ≡ true → IsTrue true ↔ IsUnder f (state_of t) b
  under_first b r e y = (λ _. inl ((on_way b.rstr b.label).0 (sym e ∙ y)), λ _. refl)

  pub under_second : (b : Binding) (r s : Bool) → r ≡ is_on_way n.owner.items b.rstr b.label ks → r ≡ false → s ≡ is_on_way n.owner.items b.body b.label ks → IsTrue s ↔ IsUnder f (state_of t) b
  under_second b r s e y g = (λ x. inr ((on_way b.body b.label).0 (sym g ∙ x)), by_side)
    where
      by_side : IsUnder f (state_of t) b → IsTrue s
      by_side (inl w) = absurd (let q = (on_way b.rstr b.label).1 w in let z : true ≡ false = sym q ∙ (sym e ∙ y) in cc)
      by_side (inr w) = g ∙ (on_way b.body b.label).1 w

  -- start
  module _ (full : IsFull f (state_of t)) where
    filled : (v : ℕ) → IsHole f v → plugged_at v ks ≡ None → ⊥
    filled v is e =
        let o = opening_at f.openings v (in_of _ v is) in
        let k = full.holes o.0 (contains_of f.openings o.0 o.1) in
        not_plugged v ks e k.0 (in_of ks k.0 k.1) (k.2 ∙ o.2)

    -- two plugs in one hole are one
    one_plug : (ls : List Plug) → IsTrail f t.root ls → (k j : Plug) → In k ls → In j ls → k.hole ≡ j.hole → k ≡ j
    one_plug [] w k j a b e = absurd a
    one_plug (x ∷ ls) w k j (inl a) (inl b) e = a ∙ sym b
    one_plug (x ∷ ls) w k j (inl a) (inr b) e = absurd (w.1.free (j, contains_of ls j b, sym e ∙ ap (λ (z : Plug). z.hole) a))
    one_plug (x ∷ ls) w k j (inr a) (inl b) e = absurd (w.1.free (k, contains_of ls k a, e ∙ ap (λ (z : Plug). z.hole) b))
    one_plug (x ∷ ls) w k j (inr a) (inr b) e = one_plug ls w.0 k j a b e

    pub starts_plug : (v l : ℕ) → plugged_at v ks ≡ Some l → StartsAt f (state_of t) v l × ((from : ℕ) → StartsAt f (state_of t) v from → from ≡ l)
    starts_plug v l e =
        let k = plugged_of v l ks e in
        (subst (StartsAt f (state_of t) v) k.3 (by_plug k.0 (contains_of ks k.0 k.1) k.2), λ from s. only from s)
      where
        only : (from : ℕ) → StartsAt f (state_of t) v from → from ≡ l
        only _ (by_plug j c d) =
            let k = plugged_of v l ks e in
            ap (λ (z : Plug). z.label) (one_plug ks going.trail j k.0 (in_of ks j c) k.1 (d ∙ sym k.2)) ∙ k.3
        only _ (by_label is) =
            let k = plugged_of v l ks e in
            let own = going.well.own k.0 (contains_of ks k.0 k.1) (subst (IsLabel f) (sym k.2) is) in
            sym k.2 ∙ (sym own ∙ k.3)
        only _ (by_root d a b) =
            let k = plugged_of v l ks e in
            let o = owner_in f t.root ks going.trail k.0 k.1 in
            absurd (a (hole_is f o.0 v o.1 (o.2 ∙ k.2)))

    pub starts_label : (v : ℕ) → plugged_at v ks ≡ None → slice_index_or n.is_label.items v false ≡ true → StartsAt f (state_of t) v v × ((from : ℕ) → StartsAt f (state_of t) v from → from ≡ v)
    starts_label v e y = (by_label ((net.is_label v).0 y), λ from s. only from s)
      where
        only : (from : ℕ) → StartsAt f (state_of t) v from → from ≡ v
        only _ (by_plug j c d) = absurd (not_plugged v ks e j (in_of ks j c) d)
        only _ (by_label is) = refl
        only _ (by_root d a b) = absurd (b ((net.is_label v).0 y))

    no_label : (v : ℕ) → slice_index_or n.is_label.items v false ≡ false → IsLabel f v → ⊥
    no_label v y is = let z : true ≡ false = sym ((net.is_label v).1 is) ∙ y in absurd (cc)

    pub starts_root : (v : ℕ) → plugged_at v ks ≡ None → slice_index_or n.is_label.items v false ≡ false → v ≡ n.parts.top → StartsAt f (state_of t) v t.root × ((from : ℕ) → StartsAt f (state_of t) v from → from ≡ t.root)
    starts_root v e y d = (by_root d (λ is. filled v is e) (no_label v y), λ from s. only from s)
      where
        only : (from : ℕ) → StartsAt f (state_of t) v from → from ≡ t.root
        only _ (by_plug j c m) = absurd (not_plugged v ks e j (in_of ks j c) m)
        only _ (by_label is) = absurd (no_label v y is)
        only _ (by_root m a b) = refl

    pub starts_none : (v : ℕ) → plugged_at v ks ≡ None → slice_index_or n.is_label.items v false ≡ false → v ≢ n.parts.top → (from : ℕ) → StartsAt f (state_of t) v from → ⊥
    starts_none v e y d _ (by_plug j c m) = not_plugged v ks e j (in_of ks j c) m
    starts_none v e y d _ (by_label is) = no_label v y is
    starts_none v e y d _ (by_root m a b) = d m

    -- is_met
    pub met_no_label : (c : Qeq) → slice_index_or n.is_label.items c.right false ≡ false → IsTrue false ↔ IsMet f (state_of t) c
    met_no_label c y = (λ x. absurd (cc), λ m. absurd (no_label c.right y m.right))

    pub met_from : (c : Qeq) (from : ℕ) (r : Bool) → slice_index_or n.is_label.items c.right false ≡ true → StartsAt f (state_of t) c.left from × ((at : ℕ) → StartsAt f (state_of t) c.left at → at ≡ from)
        → r ≡ is_by_bodies n.owner.items n.is_body.items from c.right ks → IsTrue r ↔ IsMet f (state_of t) c
    met_from c from r y s e = (
      λ x. record { right = (net.is_label c.right).0 y; from = from; starts = s.0; way = (by_bodies from c.right).0 (sym e ∙ x) },
      λ m. e ∙ (by_bodies from c.right).1 (subst (λ a. IsByBodies f (state_of t) a c.right) (s.1 m.from m.starts) m.way),
    )

    pub met_none : (c : Qeq) → ((from : ℕ) → StartsAt f (state_of t) c.left from → ⊥) → IsTrue false ↔ IsMet f (state_of t) c
    met_none c s = (λ x. absurd (cc), λ m. absurd (s m.from m.starts))

    -- is_sound
    pub sound_no_bindings : (r : Bool) → r ≡ false → IsTrue r ↔ All (IsUnder f (state_of t)) f.bindings → IsTrue false ↔ IsSound f (state_of t)
    sound_no_bindings r y same = (λ x. absurd (cc), λ s. (let z : true ≡ false = sym (same.1 s.bindings) ∙ y in absurd (cc)))

    pub sound_no_qeqs : (r : Bool) → r ≡ false → IsTrue r ↔ All (IsMet f (state_of t)) f.qeqs → IsTrue false ↔ IsSound f (state_of t)
    sound_no_qeqs r y same = (λ x. absurd (cc), λ s. (let z : true ≡ false = sym (same.1 s.qeqs) ∙ y in absurd (cc)))

    pub sound_all : (a b r : Bool) → a ≡ true → IsTrue a ↔ All (IsUnder f (state_of t)) f.bindings → b ≡ true → IsTrue b ↔ All (IsMet f (state_of t)) f.qeqs
        → IsTrue r ↔ (IsLabel f f.top → IsByBodies f (state_of t) t.root f.top) → IsTrue r ↔ IsSound f (state_of t)
    sound_all a b r y under z met top = (
      λ x. record {
        bindings = under.0 y;
        qeqs = met.0 z;
        label = top.0 x;
        hole = λ never k c e. absurd (no_hole net.top never k c e);
      },
      λ s. top.1 s.label,
    )
      where
        no_hole : IsLabel f f.top ⊎ (IsHole f f.top → ⊥) → (IsLabel f f.top → ⊥) → (k : Plug) → Contains ks k → k.hole ≡ f.top → ⊥
        no_hole (inl is) never k c e = never is
        no_hole (inr free) never k c e = let o = owner_in f t.root ks going.trail k (in_of ks k c) in free (hole_is f o.0 f.top o.1 (o.2 ∙ e))

  pub topped_no_label : slice_index_or n.is_label.items n.parts.top false ≡ false → IsTrue true ↔ (IsLabel f f.top → IsByBodies f (state_of t) t.root f.top)
  topped_no_label y = (λ _. λ is. (let z : true ≡ false = sym ((net.is_label f.top).1 is) ∙ y in absurd (cc)), λ _. refl)

  pub topped : (r : Bool) → slice_index_or n.is_label.items n.parts.top false ≡ true → r ≡ is_by_bodies n.owner.items n.is_body.items t.root n.parts.top ks → IsTrue r ↔ (IsLabel f f.top → IsByBodies f (state_of t) t.root f.top)
  topped r y e = (λ x. λ is. (by_bodies t.root f.top).0 (sym e ∙ x), λ w. e ∙ (by_bodies t.root f.top).1 (w ((net.is_label f.top).0 y)))
