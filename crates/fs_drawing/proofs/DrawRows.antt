-- Rows of arcs, drawn one by one.
use Rattle.std.proofs.Common.{ℕ, zero, suc, ◌≡◌, ◌≤◌, ◌<◌, ◌+◌, ◌-◌, ◌⊎◌, inl, inr, None, List, [], ◌∷◌, ◌++◌, length, map, take, drop, slice_index, slice_index_or, refl, sym, ◌∙◌, ap, subst, arith, length-append}
use Rattle.std.specs.List.{between, insert}
use Rattle.std.proofs.lemmas.Bool.{cases_lt}
use Rattle.std.proofs.lemmas.List.{map-append, length_push, get_or_push, get_or_append_left, drop_at, take-append-le, drop-append-le, length-drop}
use Rattle.type_hierarchy.specs.declared.types.Ty.{Ty}
use Rattle.fs_graph.specs.declared.graph.GraphArc.{GraphArc}
use Rattle.fs_graph.specs.GraphMap.{arc_to, Rises}
use Rattle.fs_graph.specs.Inside.{row}
use Rattle.fs_graph.specs.Visits.{feats_of, targets_of}
use Rattle.fs_graph.proofs.DrawLemmas.{insert_rises, insert_bounded, insert_here, insert_other}
use Rattle.fs_closing.proofs.ListLemmas.{at_push}
use Rattle.fs_drawing.specs.Drawing.{PutsArc, DrawsTypes, DrawsRows}

pub puts_arc : (xs ys : List GraphArc) (i : ℕ) (a : GraphArc) → ys ≡ insert xs i a → i ≤ length xs → Rises xs → arc_to xs a.feat.0 ≡ None →
    ((k : ℕ) → k < i → slice_index (feats_of xs) k < a.feat.0) → (i < length xs → a.feat.0 ≤ slice_index (feats_of xs) i) → PutsArc a.feat.0 a.to.0 xs ys
puts_arc xs ys i a is within rises new before found =
    subst (PutsArc a.feat.0 a.to.0 xs) (sym is)
    (record {
      rises = insert_rises xs i a within rises new before found;
      here = insert_here xs i a within rises new before found;
      others = λ f e. insert_other xs i a within rises new before found f e;
      to_in = λ m low all. insert_bounded xs i a within rises new before found m low all;
    })

-- the last place whose feature comes before one is where this one is put
pub below_place : (xs : List GraphArc) (place f : ℕ) → Rises xs → 0 < place → place ≤ length xs → slice_index (feats_of xs) (place - 1) < f →
    (k : ℕ) → k < place → slice_index (feats_of xs) k < f
below_place xs place f rises some within low k h = go (cases_lt k (place - 1))
  where
    go : (k < place - 1) ⊎ (place - 1 ≤ k) → slice_index (feats_of xs) k < f
    go (inl a) = let r = rises k (place - 1) a (omega arith) in omega arith
    go (inr a) = let e : place - 1 ≡ k = omega arith in subst (λ i. slice_index (feats_of xs) i < f) e low

pub past_place : (xs : List GraphArc) (place f : ℕ) → 0 < place → ((k : ℕ) → place ≤ k → k < length xs → f ≤ slice_index (feats_of xs) k) →
    f ≤ slice_index (feats_of xs) (place - 1) → (k : ℕ) → place - 1 ≤ k → k < length xs → f ≤ slice_index (feats_of xs) k
past_place xs place f some past low k a h = go (cases_lt k place)
  where
    go : (k < place) ⊎ (place ≤ k) → f ≤ slice_index (feats_of xs) k
    go (inl b) = let e : place - 1 ≡ k = omega arith in subst (λ i. f ≤ slice_index (feats_of xs) i) e low
    go (inr b) = past k b h

-- what one look in the middle tells of the arcs before it, or of those from it on
pub below_upto : (xs : List GraphArc) (m f : ℕ) → Rises xs → m < length xs → slice_index (feats_of xs) m < f → (k : ℕ) → k < m + 1 →
    slice_index (feats_of xs) k < f
below_upto xs m f rises h low k a = go (cases_lt k m)
  where
    go : (k < m) ⊎ (m ≤ k) → slice_index (feats_of xs) k < f
    go (inl b) = let r = rises k m b h in omega arith
    go (inr b) = let e : m ≡ k = omega arith in subst (λ i. slice_index (feats_of xs) i < f) e low

pub past_from : (xs : List GraphArc) (m f : ℕ) → Rises xs → f ≤ slice_index (feats_of xs) m → (k : ℕ) → m ≤ k → k < length xs →
    f ≤ slice_index (feats_of xs) k
past_from xs m f rises low k a h = go (cases_lt m k)
  where
    go : (m < k) ⊎ (k ≤ m) → f ≤ slice_index (feats_of xs) k
    go (inl b) = let r = rises m k b h in omega arith
    go (inr b) = let e : m ≡ k = omega arith in subst (λ i. f ≤ slice_index (feats_of xs) i) e low

pub rises_none : (xs : List GraphArc) → xs ≡ [] → Rises xs
rises_none xs is i j a b = absurd (let e = ap length is in omega arith)

pub to_in_none : (xs : List GraphArc) (m : ℕ) → xs ≡ [] → (k : ℕ) → k < length xs → slice_index (targets_of xs) k < m
to_in_none xs m is k h = absurd (let e = ap length is in omega arith)

-- a part of a list with more at its end
between_old : {X : Type 0} (xs ys : List X) (i j : ℕ) → i ≤ j → j ≤ length xs → between i j (xs ++ ys) ≡ between i j xs
between_old xs ys i j a b =
    ap (take (j - i)) (drop-append-le i xs ys (omega arith))
    ∙ take-append-le (j - i) (drop i xs) ys (omega (arith, a, b, length-drop i xs))

between_new : {X : Type 0} (xs ys : List X) (i j : ℕ) → i ≡ length xs → j ≡ length xs + length ys → between i j (xs ++ ys) ≡ ys
between_new xs ys i j a b =
    ap (take (j - i)) (drop_at xs ys i (sym a)) ∙ all ys (j - i) (omega arith)
  where
    all : {X : Type 0} (ys : List X) (n : ℕ) → n ≡ length ys → take n ys ≡ ys
    all [] zero e = refl
    all [] (suc n) e = refl
    all (y ∷ ys) zero e = absurd (omega arith)
    all (y ∷ ys) (suc n) e = ap (λ l. y ∷ l) (all ys n (omega arith))

pub rows_begin : (shows : ℕ → List GraphArc → Type 0) (starts : List ℕ) (arcs : List GraphArc) → starts ≡ 0 ∷ [] → arcs ≡ [] → DrawsRows shows 0 starts arcs
rows_begin shows starts arcs s_is a_is = record {
  rows = record {
    one_more = ap length s_is;
    rise = λ n h. absurd (omega arith);
    inside = λ n h.
        let z : n ≡ 0 = omega arith in
        let s : slice_index starts n ≡ 0 = ap (slice_index starts) z ∙ ap (λ l. slice_index l 0) s_is in
        omega arith;
  };
  ends = ap (λ l. slice_index l 0) s_is ∙ sym (ap length a_is);
  each = λ n h. absurd (omega arith);
}

pub rows_more : (shows : ℕ → List GraphArc → Type 0) (n at : ℕ) (r : List GraphArc) (starts starts' : List ℕ) (arcs arcs' : List GraphArc) → DrawsRows shows n starts arcs →
    shows n r → arcs' ≡ arcs ++ r → starts' ≡ starts ++ at ∷ [] → at ≡ length arcs' → DrawsRows shows (n + 1) starts' arcs'
rows_more shows n at r starts starts' arcs arcs' d one a_is s_is at_is = record {
  rows = record { one_more = ap length s_is ∙ length_push starts at ∙ ap (λ k. k + 1) size; rise = λ k h. rise k h (cases_lt k n); inside = λ k h. inside k h (cases_lt n k) };
  ends = last ∙ at_is;
  each = λ k h. each k h (cases_lt k n);
}
  where
    size : length starts ≡ n + 1
    size = d.rows.one_more

    longer : length arcs' ≡ length arcs + length r
    longer = ap length a_is ∙ length-append arcs r

    old : (k : ℕ) → k ≤ n → slice_index starts' k ≡ slice_index starts k
    old k h = ap (λ l. slice_index l k) s_is ∙ get_or_append_left starts (at ∷ []) 0 k (omega (arith, size))

    last : slice_index starts' (n + 1) ≡ at
    last = ap (λ l. slice_index l (n + 1)) s_is ∙ get_or_push starts at 0 (n + 1) size

    rise : (k : ℕ) → k < n + 1 → (k < n) ⊎ (n ≤ k) → slice_index starts' k ≤ slice_index starts' (k + 1)
    rise k h (inl a) =
        let p = old k (omega arith) in
        let q = old (k + 1) (omega arith) in
        let b = d.rows.rise k a in
        omega arith
    rise k h (inr a) =
        let e : k ≡ n = omega arith in
        let p = old n (omega arith) in
        let b = d.ends in
        let f = longer in
        let z = last in
        let s : slice_index starts' n ≤ slice_index starts' (n + 1) = omega (arith, at_is) in
        subst (λ i. slice_index starts' i ≤ slice_index starts' (i + 1)) (sym e) s

    inside : (k : ℕ) → k ≤ n + 1 → (n < k) ⊎ (k ≤ n) → slice_index starts' k ≤ length arcs'
    inside k h (inl a) =
        let e : k ≡ n + 1 = omega arith in
        let z = last in
        subst (λ i. slice_index starts' i ≤ length arcs') (sym e) (omega (arith, at_is))
    inside k h (inr a) =
        let p = old k a in
        let b = d.rows.inside k a in
        let f = longer in
        omega arith

    each : (k : ℕ) → k < n + 1 → (k < n) ⊎ (n ≤ k) → shows k (row starts' arcs' k)
    each k h (inl a) =
        let p = old k (omega arith) in
        let q = old (k + 1) (omega arith) in
        let same = ap (λ i. between i (slice_index starts' (k + 1)) arcs') p ∙ ap (λ j. between (slice_index starts k) j arcs') q
        ∙ ap (between (slice_index starts k) (slice_index starts (k + 1))) a_is
        ∙ between_old arcs r (slice_index starts k) (slice_index starts (k + 1)) (d.rows.rise k a) (d.rows.inside (k + 1) (omega arith)) in
        subst (shows k) (sym same) (d.each k a)
    each k h (inr a) =
        let e : k ≡ n = omega arith in
        let p = old n (omega arith) ∙ d.ends in
        let same = ap (between (slice_index starts' n) (slice_index starts' (n + 1))) a_is
        ∙ between_new arcs r (slice_index starts' n) (slice_index starts' (n + 1)) p (last ∙ at_is ∙ longer) in
        subst (λ i. shows i (row starts' arcs' i)) (sym e) (subst (shows n) (sym same) one)

-- rows that show one thing show another that follows from it
pub rows_on : (shows shows' : ℕ → List GraphArc → Type 0) (count : ℕ) (starts : List ℕ) (arcs : List GraphArc) → ((n : ℕ) (r : List GraphArc) → n < count → shows n r → shows' n r) →
    DrawsRows shows count starts arcs → DrawsRows shows' count starts arcs
rows_on shows shows' count starts arcs on d = record { rows = d.rows; ends = d.ends; each = λ n h. on n (row starts arcs n) h (d.each n h) }

-- one type more
pub types_more : (type_of : ℕ → ℕ) (n : ℕ) (types types' : List Ty) (ty : Ty) → types' ≡ types ++ ty ∷ [] → ty.0 ≡ type_of n → DrawsTypes type_of n (map (λ t. t.0) types) →
    DrawsTypes type_of (n + 1) (map (λ t. t.0) types')
types_more type_of n types types' ty is here d = record { size = size; each = λ k h. each k (at_push (map (λ t. t.0) types) ty.0 0 k (omega (arith, d.size))) }
  where
    are : map (λ t. t.0) types' ≡ map (λ t. t.0) types ++ ty.0 ∷ []
    are = ap (map (λ t. t.0)) is ∙ map-append (λ (t : Ty). t.0) types (ty ∷ [])

    size : length (map (λ t. t.0) types') ≡ n + 1
    size = ap length are ∙ length-append (map (λ t. t.0) types) (ty.0 ∷ []) ∙ ap (λ k. k + 1) d.size

    each : (k : ℕ) →
        ((k < length (map (λ t. t.0) types)) × (slice_index_or (map (λ t. t.0) types ++ ty.0 ∷ []) k 0 ≡ slice_index_or (map (λ t. t.0) types) k 0)) ⊎
        ((k ≡ length (map (λ t. t.0) types)) × (slice_index_or (map (λ t. t.0) types ++ ty.0 ∷ []) k 0 ≡ ty.0)) →
        slice_index_or (map (λ t. t.0) types') k 0 ≡ type_of k
    each k (inl a) = ap (λ l. slice_index_or l k 0) are ∙ a.1 ∙ d.each k (omega (arith, a.0, d.size))
    each k (inr a) = ap (λ l. slice_index_or l k 0) are ∙ a.1 ∙ here ∙ ap type_of (sym (a.0 ∙ d.size))

pub types_none : (type_of : ℕ → ℕ) (types : List Ty) → types ≡ [] → DrawsTypes type_of 0 (map (λ t. t.0) types)
types_none type_of types is = record { size = ap (λ l. length (map (λ (t : Ty). t.0) l)) is; each = λ n h. absurd (omega arith) }

-- the same types by another name of their nodes
pub types_on : (type_of type_of' : ℕ → ℕ) (count : ℕ) (types : List ℕ) → ((n : ℕ) → n < count → type_of n ≡ type_of' n) → DrawsTypes type_of count types →
    DrawsTypes type_of' count types
types_on type_of type_of' count types same d = record { size = d.size; each = λ n h. d.each n h ∙ same n h }
