-- Rows of arcs of which no two have one feature.
use Rattle.std.proofs.Common.{ℕ, zero, suc, ◌≡◌, ◌≢◌, ◌≤◌, ◌<◌, ◌+◌, ◌==◌, ◌⊎◌, inl, inr, cond, Option, Some, None, option_map, List, [], ◌∷◌, ◌++◌, length, slice_index_or, refl, sym, ◌∙◌, ap, arith, eq-eqb, length-append}
use Rattle.std.specs.List.{find}
use Rattle.std.proofs.lemmas.Bool.{cases_lt, ne_eqb}
use Rattle.std.proofs.lemmas.List.{get_or_append_left, get_or-append-add, length-map, map-append}
use Rattle.fs_graph.specs.declared.graph.GraphArc.{GraphArc}
use Rattle.fs_graph.specs.GraphMap.{arc_to}
use Rattle.fs_graph.specs.Visits.{feats_of, targets_of}
use Rattle.forced_types.specs.Inner.Entries.{feat_at, AreFeatsApart}

pub none_apart : AreFeatsApart []
none_apart i j a b = absurd (omega (arith, b))

apart_rest : (x : GraphArc) (xs : List GraphArc) → AreFeatsApart (x ∷ xs) → AreFeatsApart xs
apart_rest x xs r i j a b = r (suc i) (suc j) (omega (arith, a)) (omega (arith, b))

-- a look-up finds each arc
pub arc_there : (xs : List GraphArc) (k : ℕ) → AreFeatsApart xs → k < length xs → arc_to xs (feat_at xs k) ≡ Some (slice_index_or (targets_of xs) k 0)
arc_there [] k r h = absurd (omega (arith, h))
arc_there (x ∷ xs) zero r h = ap (λ b. option_map (λ a. a.to.0) (cond b (Some x) (find (λ a. a.feat.0 == x.feat.0) xs))) (eq-eqb x.feat.0 x.feat.0 refl)
arc_there (x ∷ xs) (suc k) r h =
    let f = feat_at xs k in
    let other : x.feat.0 ≢ f = r 0 (suc k) (omega arith) h in
    ap (λ b. option_map (λ a. a.to.0) (cond b (Some x) (find (λ a. a.feat.0 == f) xs))) (ne_eqb x.feat.0 f other)
    ∙ arc_there xs k (apart_rest x xs r) (omega (arith, h))

-- an arc more, of a feature that the row lacks
pub apart_more : (xs : List GraphArc) (a : GraphArc) → AreFeatsApart xs → arc_to xs a.feat.0 ≡ None → AreFeatsApart (xs ++ a ∷ [])
apart_more xs a r lacks i j h l = go (cases_lt j (length xs))
  where
    feats : feats_of (xs ++ a ∷ []) ≡ feats_of xs ++ a.feat.0 ∷ []
    feats = map-append (λ (x : GraphArc). x.feat.0) xs (a ∷ [])

    size : length (feats_of xs) ≡ length xs
    size = length-map xs (λ (x : GraphArc). x.feat.0)

    size' : length (feats_of (xs ++ a ∷ [])) ≡ length (xs ++ a ∷ [])
    size' = length-map (xs ++ a ∷ []) (λ (x : GraphArc). x.feat.0)

    old : (k : ℕ) → k < length xs → feat_at (xs ++ a ∷ []) k ≡ feat_at xs k
    old k b = ap (λ l. slice_index_or l k 0) feats ∙ get_or_append_left (feats_of xs) (a.feat.0 ∷ []) 0 k (omega (arith, size, b))

    last : (k : ℕ) → length xs ≤ k → k < length (xs ++ a ∷ []) → feat_at (xs ++ a ∷ []) k ≡ a.feat.0
    last k b c =
        let more = ap length feats in
        let count = length-append (feats_of xs) (a.feat.0 ∷ []) in
        let is : k ≡ length (feats_of xs) + 0 = omega (arith, size, size', more, count, b, c) in
        ap (λ l. slice_index_or l k 0) feats ∙ ap (λ z. slice_index_or (feats_of xs ++ a.feat.0 ∷ []) z 0) is ∙ get_or-append-add (feats_of xs) (a.feat.0 ∷ []) 0 0

    no_arc : (o : Option ℕ) (m : ℕ) → o ≡ None → o ≡ Some m → ⊥
    no_arc o m b c = cc

    go : (j < length xs) ⊎ (length xs ≤ j) → feat_at (xs ++ a ∷ []) i ≢ feat_at (xs ++ a ∷ []) j
    go (inl b) e = r i j h b (sym (old i (omega (arith, h, b))) ∙ e ∙ old j b)
    go (inr b) e =
        let count = length-append xs (a ∷ []) in
        let i_in : i < length xs = omega (arith, h, l, count) in
        let is : feat_at xs i ≡ a.feat.0 = sym (old i i_in) ∙ e ∙ last j b l in
        no_arc (arc_to xs a.feat.0) (slice_index_or (targets_of xs) i 0) lacks (ap (arc_to xs) (sym is) ∙ arc_there xs i r i_in)
