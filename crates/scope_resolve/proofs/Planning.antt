-- What holds in each reading of a net.
use Rattle.std.proofs.Common.{ℕ, ◌≡◌, ◌⊎◌, inl, inr, ◌∙◌, true, false, List, [], ◌∷◌, ◌++◌, refl, sym, ap, subst}
use Rattle.std.specs.Prelude.{Contains, slice_index_or}
use Rattle.std.proofs.lemmas.List.Elements.{Contains-append_cases}
use Rattle.scope_model.specs.declared.Opening.{Opening}
use Rattle.scope_model.specs.declared.Binding.{Binding}
use Rattle.scope_model.specs.declared.Qeq.{Qeq}
use Rattle.scope_model.specs.declared.Plug.{Plug}
use Rattle.scope_model.specs.Frames.{Frame}
use Rattle.scope_model.specs.Readings.{Plugged, IsLabel, IsHole, label_at, Leads, Below, at, down, Reaches, IsBound, Begins, at_hole, at_label, at_top, IsReading}
use Rattle.scope_model.specs.States.{state, HasBodies, LiesBelow}
use Rattle.scope_model.proofs.Lists.{In, in_of, of_map, contains_of}
use Rattle.scope_model.proofs.Led.{led_once_in}
use Rattle.scope_model.proofs.Under.{lower}
use Rattle.scope_model.proofs.Climb.{below_reaches}
use Rattle.scope_model.proofs.Whole.{hole_is}
use Rattle.scope_model.proofs.Plugs.{found}
use Rattle.scope_model.proofs.First.{holds_at}
use Rattle.scope_resolve.specs.declared.nets.Net.{Net}
use Rattle.scope_resolve.specs.declared.plan.Under.{Under}
use Rattle.scope_resolve.specs.Inner.Nets.{IsNet, frame_in}
use Rattle.scope_resolve.specs.Inner.Pruning.{IsUnderIn, IsHoleChain, IsLabelChain, IsRootChain, IsPair}
use Rattle.scope_resolve.proofs.Each.{all_in}

-- one more
pub put_more : {X : Type 0} (P : X → Type 0) (xs : List X) (x : X) → ((k : X) → Contains xs k → P k) → P x → (k : X) → Contains (xs ++ x ∷ []) k → P k
put_more P xs x each is k c = by_side (Contains-append_cases xs (x ∷ []) k c)
  where
    by_side : Contains xs k ⊎ Contains (x ∷ []) k → P k
    by_side (inl d) = each k d
    by_side (inr d) = by_only (in_of (x ∷ []) k d)
      where
        by_only : In k (x ∷ []) → P k
        by_only (inl e) = subst P (sym e) is
        by_only (inr j) = absurd j

pub more_at : {X : Type 0} (P : X → Type 0) (xs : List X) (x : X) (ys : List X) → ys ≡ xs ++ x ∷ [] → ((k : X) → Contains xs k → P k) → P x → (k : X) → Contains ys k → P k
more_at P xs x ys e each is k c = put_more P xs x each is k (subst (λ zs. Contains zs k) e c)

module _ (f : Frame) (p : Plugged) (r : IsReading f p) where
  down_to : HasBodies f → (a l : ℕ) → Reaches f p a l → Below f p a l
  down_to has a l w = below_reaches f (state p.top []) p (led_once_in f p r) (λ k i. absurd (in_of [] k i)) (record { root = refl; plugs = λ k i. absurd (in_of [] k i) }) has a l w

  -- a hole that is a label has that label
  pub own_label : (h : ℕ) → IsHole f h → IsLabel f h → label_at p h ≡ h
  own_label h is lab =
      let c = (r.plugging.every h).0 is in
      let k = of_map (λ (z : Plug). z.hole) h p.plugs (in_of _ h c) in
      let d = contains_of p.plugs k.0 k.1 in
      let own = subst (λ (s : Plug). IsLabel f s.hole → s.label ≡ s.hole) d.2 (r.plugging.own d.0 k.0 d.1) in
      ap (label_at p) (sym k.2) ∙ (found f p r.plugging k.0 k.1 ∙ (own (subst (IsLabel f) (sym k.2) lab) ∙ k.2))

  from_hole : (v from : ℕ) → Begins f p v from → IsHole f v → label_at p v ≡ from
  from_hole v _ (at_hole is) hole = refl
  from_hole v _ (at_label is) hole = own_label v hole is
  from_hole v _ (at_top e a b) hole = absurd (a hole)

  from_label : (v from : ℕ) → Begins f p v from → IsLabel f v → v ≡ from
  from_label v _ (at_hole is) lab = sym (own_label v is lab)
  from_label v _ (at_label is) lab = refl
  from_label v _ (at_top e a b) lab = absurd (b lab)

  from_top : (v from : ℕ) → Begins f p v from → (IsHole f v → ⊥) → (IsLabel f v → ⊥) → p.top ≡ from
  from_top v _ (at_hole is) a b = absurd (a is)
  from_top v _ (at_label is) a b = absurd (b is)
  from_top v _ (at_top e c d) a b = refl

  -- what is under a hole is at or below its owner
  under_owner : (o : Opening) (h a l : ℕ) → Contains f.openings o → o.hole ≡ h → o.label ≡ a → Below f p (label_at p h) l → Below f p a l
  under_owner o h a l i e d w =
      let lead : Leads f p a (label_at p h) = record { by = o; there = i; from = d; to = ap (label_at p) e } in
      lower f p a (label_at p h) l (down a a (label_at p h) (at a) lead) w

  forced_at : (h : ℕ) → IsHole f h → IsLabel f h → Below f p (label_at p h) h
  forced_at h is lab = subst (λ z. Below f p z h) (sym (own_label h is lab)) (at h)

-- what is told of a hole is told of its owner
pub pair_of : (f : Frame) (u : Under) → IsUnderIn f u → IsPair f (record { from = u.owner; to = u.label })
pair_of f u is = record { from = is.owner; to = is.label; below = below }
  where
    below : LiesBelow f u.owner u.label
    below p r = by_side (is.below p r)
      where
        by_side : Below f p (label_at p u.first) u.label ⊎ Below f p (label_at p u.second) u.label → Below f p u.owner u.label
        by_side (inl w) = under_owner f p r is.first.0 u.first u.owner u.label is.first.1 is.first.2 is.first.3 w
        by_side (inr w) = under_owner f p r is.second.0 u.second u.owner u.label is.second.1 is.second.2 is.second.3 w

module _ (n : Net) (net : IsNet n) where
  abbrev f : Frame
  f = frame_in n.parts

  -- a binding
  pub bound_in : (b : Binding) (o k : Opening) → Contains f.bindings b → Contains f.openings o × (o.hole ≡ b.rstr) → Contains f.openings k × (k.hole ≡ b.body) → o.label ≡ k.label
      → IsUnderIn f (record { owner = o.label; first = b.rstr; second = b.body; label = b.label })
  bound_in b o k c i j e = record {
    owner = net.linked.labels o i.0;
    label = (net.linked.holes b c).label;
    first = (o, i.0, i.1, refl);
    second = (k, j.0, j.1, sym e);
    below = λ p r. all_in (IsBound f p) f.bindings c.0 b c.1 (sym c.2) r.binding;
  }

  -- a hole that is a label
  pub forced_in : (o : Opening) → Contains f.openings o → slice_index_or n.is_label.items o.hole false ≡ true → IsUnderIn f (record { owner = o.label; first = o.hole; second = o.hole; label = o.hole })
  forced_in o i y = record {
    owner = net.linked.labels o i;
    label = (net.is_label o.hole).0 y;
    first = (o, i, refl, refl);
    second = (o, i, refl, refl);
    below = λ p r. inl (forced_at f p r o.hole (hole_is f o o.hole i refl) ((net.is_label o.hole).0 y));
  }

  -- a constraint that begins at a hole
  pub hole_chain : (c : Qeq) (o : Opening) → Contains f.qeqs c → Contains f.openings o × (o.hole ≡ c.left) → IsHoleChain f (record { from = c.left; to = c.right })
  hole_chain c o i j p r =
      let h = holds_at f p r c i in
      subst (λ z. Reaches f p z c.right) (sym (from_hole f p r c.left h.from h.begins (hole_is f o c.left j.0 j.1))) h.reaches

  pub held_in : (c : Qeq) (o : Opening) → Contains f.qeqs c → Contains f.openings o × (o.hole ≡ c.left) → IsUnderIn f (record { owner = o.label; first = c.left; second = c.left; label = c.right })
  held_in c o i j = record {
    owner = net.linked.labels o j.0;
    label = net.right c i;
    first = (o, j.0, j.1, refl);
    second = (o, j.0, j.1, refl);
    below = λ p r. inl (down_to f p r net.linked.bodies (label_at p c.left) c.right (hole_chain c o i j p r));
  }

  -- at a label
  pub label_chain : (c : Qeq) → Contains f.qeqs c → slice_index_or n.is_label.items c.left false ≡ true → IsLabelChain f (record { from = c.left; to = c.right })
  label_chain c i y = record {
    from = (net.is_label c.left).0 y;
    reaches = λ p r. (let h = holds_at f p r c i in
        subst (λ z. Reaches f p z c.right) (sym (from_label f p r c.left h.from h.begins ((net.is_label c.left).0 y))) h.reaches);
  }

  pub label_pair : (c : Qeq) → Contains f.qeqs c → slice_index_or n.is_label.items c.left false ≡ true → IsPair f (record { from = c.left; to = c.right })
  label_pair c i y = let k = label_chain c i y in record {
    from = k.from;
    to = net.right c i;
    below = λ p r. down_to f p r net.linked.bodies c.left c.right (k.reaches p r);
  }

  no_label : (v : ℕ) → slice_index_or n.is_label.items v false ≡ false → IsLabel f v → ⊥
  no_label v y is = let z : true ≡ false = sym ((net.is_label v).1 is) ∙ y in absurd (cc)

  -- at the root
  pub root_chain : (c : Qeq) → Contains f.qeqs c → slice_index_or n.is_label.items c.left false ≡ false → c.left ≡ n.parts.top → IsRootChain f c.right
  root_chain c i y e p r =
      let h = holds_at f p r c i in
      subst (λ z. Reaches f p z c.right) (sym (from_top f p r c.left h.from h.begins (no_hole net.top) (no_label c.left y))) h.reaches
    where
      no_hole : IsLabel f f.top ⊎ (IsHole f f.top → ⊥) → IsHole f c.left → ⊥
      no_hole (inl is) hole = no_label c.left y (subst (IsLabel f) (sym e) is)
      no_hole (inr never) hole = never (subst (IsHole f) e hole)

  pub top_chain : slice_index_or n.is_label.items n.parts.top false ≡ true → IsRootChain f n.parts.top
  top_chain y p r = r.top.label ((net.is_label n.parts.top).0 y)
