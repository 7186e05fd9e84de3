-- Rows of which some arcs are left.
use Rattle.std.specs.Prelude.{ℕ, ◌≡◌, ◌<◌, ◌==◌, Bool, true, false, cond, if◌then◌else◌, Option, None, List, [], ◌∷◌, length, slice_index}
use Rattle.std.specs.List.{filter}
use Rattle.std.proofs.Common.{zero, suc, refl, sym, ◌∙◌, ap, subst, arith}
use Rattle.std.proofs.lemmas.Bool.{eqb-true}
use Rattle.fs_graph.specs.declared.graph.GraphArc.{GraphArc}
use Rattle.fs_graph.specs.GraphMap.{arc_to, Rises}
use Rattle.fs_graph.specs.Visits.{feats_of, targets_of}

pub either_none : (b : Bool) (o : Option ℕ) → o ≡ None → None ≡ (if b then o else None)
either_none true o e = sym e
either_none false o e = refl

-- a look-up among the arcs whose features pass a test
pub arc_to-filter : (p : ℕ → Bool) (xs : List GraphArc) (f : ℕ) → arc_to (filter (λ a. p a.feat.0) xs) f ≡ (if p f then arc_to xs f else None)
arc_to-filter p [] f = either_none (p f) None refl
arc_to-filter p (x ∷ xs) f = by_tests (p x.feat.0) refl (x.feat.0 == f) refl (arc_to-filter p xs f)
  where
    by_tests : (b : Bool) → p x.feat.0 ≡ b → (c : Bool) → (x.feat.0 == f) ≡ c → arc_to (filter (λ a. p a.feat.0) xs) f ≡ (if p f then arc_to xs f else None) →
        arc_to (filter (λ a. p a.feat.0) (x ∷ xs)) f ≡ (if p f then arc_to (x ∷ xs) f else None)
    by_tests true e true d rest =
        let q : p f ≡ true = ap p (sym (eqb-true x.feat.0 f d)) ∙ e in
        rw (e, d, q) refl
    by_tests true e false d rest = rw (e, d) rest
    by_tests false e true d rest =
        let q : p f ≡ false = ap p (sym (eqb-true x.feat.0 f d)) ∙ e in
        let none : arc_to (filter (λ a. p a.feat.0) xs) f ≡ None = rest ∙ rw q refl in
        rw (e, q) none
    by_tests false e false d rest = rw (e, d) rest

-- where each of a list stands in another one
abbrev IsWithin : List GraphArc → List GraphArc → Type 0
IsWithin ys xs = (j : ℕ) → j < length ys →
    (k : ℕ) × (k < length xs) × (slice_index (feats_of ys) j ≡ slice_index (feats_of xs) k) × (slice_index (targets_of ys) j ≡ slice_index (targets_of xs) k)

within_more : (b : Bool) (x : GraphArc) (ys xs : List GraphArc) → IsWithin ys xs → IsWithin (cond b (x ∷ ys) ys) (x ∷ xs)
within_more true x ys xs w zero h = (0, omega arith, refl, refl)
within_more true x ys xs w (suc j) h = let r = w j (omega (arith, h)) in (suc r.0, omega (arith, r.1), r.2, r.3)
within_more false x ys xs w j h = let r = w j h in (suc r.0, omega (arith, r.1), r.2, r.3)

-- each arc that passes is an arc
pub filter_index : (p : GraphArc → Bool) (xs : List GraphArc) → IsWithin (filter p xs) xs
filter_index p [] j h = absurd (omega (arith, h))
filter_index p (x ∷ xs) j h = within_more (p x) x (filter p xs) xs (filter_index p xs) j h

rises_rest : (x : GraphArc) (xs : List GraphArc) → Rises (x ∷ xs) → Rises xs
rises_rest x xs r i j h l = r (suc i) (suc j) (omega (arith, h)) (omega (arith, l))

rises_more : (x : GraphArc) (ys : List GraphArc) → ((j : ℕ) → j < length ys → x.feat.0 < slice_index (feats_of ys) j) → Rises ys → Rises (x ∷ ys)
rises_more x ys low r zero zero a b = absurd (omega (arith, a))
rises_more x ys low r zero (suc j) a b = low j (omega (arith, b))
rises_more x ys low r (suc i) zero a b = absurd (omega (arith, a))
rises_more x ys low r (suc i) (suc j) a b = r i j (omega (arith, a)) (omega (arith, b))

pub rises-filter : (p : GraphArc → Bool) (xs : List GraphArc) → Rises xs → Rises (filter p xs)
rises-filter p [] r = r
rises-filter p (x ∷ xs) r = by_test (p x) refl (rises-filter p xs (rises_rest x xs r))
  where
    low : (j : ℕ) → j < length (filter p xs) → x.feat.0 < slice_index (feats_of (filter p xs)) j
    low j h =
        let k = filter_index p xs j h in
        let up : x.feat.0 < slice_index (feats_of xs) k.0 = r 0 (suc k.0) (omega arith) (omega (arith, k.1)) in
        subst (λ z. x.feat.0 < z) (sym k.2) up

    by_test : (b : Bool) → p x ≡ b → Rises (filter p xs) → Rises (filter p (x ∷ xs))
    by_test true e rest = subst (λ b. Rises (cond b (x ∷ filter p xs) (filter p xs))) (sym e) (rises_more x (filter p xs) low rest)
    by_test false e rest = subst (λ b. Rises (cond b (x ∷ filter p xs) (filter p xs))) (sym e) rest
