-- In a reading nothing leads to the root, and to each label at most one hole.
use Rattle.std.proofs.Common.{ℕ, zero, suc, ◌+◌, ◌≡◌, ◌≤◌, ◌⊎◌, inl, inr, Bool, true, false, List, [], ◌∷◌, map, refl, sym, ◌∙◌, ap, subst, arith, ◌==◌}
use Rattle.std.specs.Prelude.{Contains, All, if◌then◌else◌}
use Rattle.std.proofs.lemmas.Bool.{eq-eqb, eqb-true}
use Rattle.std.proofs.lemmas.List.Elements.{All-head, All-tail}
use Rattle.scope_model.specs.declared.Opening.{Opening}
use Rattle.scope_model.specs.Frames.{Frame}
use Rattle.scope_model.specs.declared.Plug.{Plug}
use Rattle.scope_model.specs.Readings.{Plugged, IsLabel, IsHole, holes_of, label_in, label_at, times_led, IsReading}
use Rattle.scope_model.specs.States.{IsLedOnce}
use Rattle.scope_model.proofs.Lists.{In, in_of, contains_of}

rest_hole : (s : Plug) (ps : List Plug) (h : ℕ) → false ≡ (s.hole == h) → In h (map (λ k. k.hole) (s ∷ ps)) → In h (map (λ k. k.hole) ps)
rest_hole s ps h e (inl d) =
    let t : (s.hole == h) ≡ true = eq-eqb s.hole h (sym d) in
    let w : true ≡ false = sym t ∙ sym e in
    absurd (cc)
rest_hole s ps h e (inr j) = j

-- what is plugged into a hole is a label
label_is : (f : Frame) (ps : List Plug) (h : ℕ) → All (λ s. IsLabel f s.label) ps → In h (map (λ s. s.hole) ps) → IsLabel f (label_in ps h)
label_is f [] h a i = absurd i
label_is f (s ∷ ps) h a i = by_test (s.hole == h) refl (label_is f ps h (All-tail (λ k. IsLabel f k.label) s ps a))
  where
    by_test : (b : Bool) → b ≡ (s.hole == h) → (In h (map (λ k. k.hole) ps) → IsLabel f (label_in ps h)) → IsLabel f (if b then s.label else label_in ps h)
    by_test true e rest = All-head (λ k. IsLabel f k.label) s ps a
    by_test false e rest = rest (rest_hole s ps h e i)

some_led : (p : Plugged) (l : ℕ) (os : List Opening) → 1 ≤ times_led os p l → (o : Opening) × In o os × (label_at p o.hole ≡ l)
some_led p l [] n = absurd (omega (arith, n))
some_led p l (x ∷ os) n = by_test (label_at p x.hole == l) refl n (some_led p l os)
  where
    by_test : (b : Bool) → b ≡ (label_at p x.hole == l) → 1 ≤ (if b then 1 + times_led os p l else times_led os p l) → (1 ≤ times_led os p l → (o : Opening) × In o os × (label_at p o.hole ≡ l)) → (o : Opening) × In o (x ∷ os) × (label_at p o.hole ≡ l)
    by_test true e m rest = (x, inl refl, eqb-true (label_at p x.hole) l (sym e))
    by_test false e m rest = let r = rest m in (r.0, inr r.1, r.2)

none_or_some : (n : ℕ) → (n ≤ 1) ⊎ (1 ≤ n)
none_or_some zero = inl (omega arith)
none_or_some (suc n) = inr (omega arith)

pub hole_in : (os : List Opening) (o : Opening) → In o os → In o.hole (map (λ x. x.hole) os)
hole_in [] o i = absurd i
hole_in (x ∷ os) o (inl e) = inl (ap (λ (y : Opening). y.hole) e)
hole_in (x ∷ os) o (inr i) = inr (hole_in os o i)

-- the label of a hole is a label
pub hole_label : (f : Frame) (p : Plugged) → IsReading f p → (o : Opening) → In o f.openings → IsLabel f (label_at p o.hole)
hole_label f p r o i =
    let hole : IsHole f o.hole = contains_of (holes_of f) o.hole (hole_in f.openings o i) in
    let there = (r.plugging.every o.hole).0 hole in
    label_is f p.plugs o.hole r.plugging.labels (in_of (map (λ s. s.hole) p.plugs) o.hole there)

pub led_once_in : (f : Frame) (p : Plugged) → IsReading f p → IsLedOnce f p
led_once_in f p r = record { root = r.tree.root; once = λ l. go l (none_or_some (times_led f.openings p l)) }
  where
    is_label : (l : ℕ) → 1 ≤ times_led f.openings p l → IsLabel f l
    is_label l n =
        let o = some_led p l f.openings n in
        subst (IsLabel f) o.2 (hole_label f p r o.0 o.1)

    go : (l : ℕ) → (times_led f.openings p l ≤ 1) ⊎ (1 ≤ times_led f.openings p l) → times_led f.openings p l ≤ 1
    go l (inl few) = few
    go l (inr some) = elim (r.tree.once l (is_label l some)) [
      | inl e ↦ (let z : times_led f.openings p l ≡ 0 = ap (times_led f.openings p) e ∙ r.tree.root in omega (arith, z))
      | inr e ↦ omega (arith, e)
    ]
