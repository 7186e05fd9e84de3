-- Nodes and arcs of a graph that is being built.
use Rattle.std.proofs.Common.{ℕ, ◌≡◌, ◌≢◌, ◌≤◌, ◌<◌, ◌+◌, ◌-◌, ◌==◌, ◌⊎◌, inl, inr, Bool, cond, Option, Some, None, option_map, List, [], ◌∷◌, ◌++◌, Vec, length, map, take, drop, set, slice_index, slice_index_or, refl, sym, ◌∙◌, ap, subst, arith, eq-eqb}
use Rattle.std.specs.Global.{Global}
use Rattle.std.specs.Option.{option_or}
use Rattle.std.specs.List.{range_with_len, find, flat_map, insert}
use Rattle.std.proofs.lemmas.Bool.{cases_lt, ne_eqb}
use Rattle.std.proofs.lemmas.List.{get_or-map, length-map, map-append, map-set, take-map, drop-map, get_or-set_same, get_or-set_other, length-set, set-get_or, ext_get_or, take_all, take-append-drop}
use Rattle.std.proofs.lemmas.List.Edits.{length-insert, get_or-insert_below, get_or-insert_at, get_or-insert_above}
use Rattle.std.proofs.lemmas.List.Folds.{find-append}
use Rattle.std.proofs.lemmas.List.FromFn.{length-map-range_with_len}
use Rattle.fs_model.proofs.StepLemmas.{same_or_other}
use Rattle.type_hierarchy.specs.declared.types.Ty.{Ty}
use Rattle.fs_graph.specs.declared.graph.GraphArc.{GraphArc}
use Rattle.fs_graph.specs.GraphMap.{arc_to, arcs_at, Rises}
use Rattle.fs_graph.specs.Inside.{row, graph_map}
use Rattle.fs_graph.specs.Orders.{ArePlan}
use Rattle.fs_graph.specs.Visits.{feats_of, targets_of}
use Rattle.fs_graph.specs.Inner.Renumbering.{starts_of}
use Rattle.fs_graph.specs.Drawn.{drawn_map, IsDrawn, AddsArc}
use Rattle.fs_graph.proofs.RowLemmas.{row_at, arc_there}
use Rattle.fs_graph.proofs.FlatLemmas.{row_is, rows_are}

-- a number put among others: where each of them is then
module _ (xs : List ℕ) (i x : ℕ) (within : i ≤ length xs) where
  abbrev put : List ℕ
  put = insert xs i x

  place_is : (k : ℕ) → (k < i) ⊎ (k ≡ i) ⊎ (i < k)
  place_is k = go (cases_lt k i) (cases_lt i k)
    where
      go : (k < i) ⊎ (i ≤ k) → (i < k) ⊎ (k ≤ i) → (k < i) ⊎ (k ≡ i) ⊎ (i < k)
      go (inl a) _ = inl a
      go (inr a) (inl b) = inr (inr b)
      go (inr a) (inr b) = inr (inl (omega arith))

  put_below : (k : ℕ) → k < i → slice_index put k ≡ slice_index xs k
  put_below k h = get_or-insert_below xs i x 0 k h within

  put_at : (k : ℕ) → k ≡ i → slice_index put k ≡ x
  put_at k e = ap (slice_index put) e ∙ get_or-insert_at xs i x 0 within

  put_above : (k : ℕ) → i < k → slice_index put k ≡ slice_index xs (k - 1)
  put_above k h = let e : k ≡ (k - 1) + 1 = omega arith in ap (slice_index put) e ∙ get_or-insert_above xs i x 0 (k - 1) (omega arith) within

  pub put_rises : ((j k : ℕ) → j < k → k < length xs → slice_index xs j < slice_index xs k) → ((k : ℕ) → k < i → slice_index xs k < x) →
      ((k : ℕ) → i ≤ k → k < length xs → x < slice_index xs k) → (j k : ℕ) → j < k → k < length put → slice_index put j < slice_index put k
  put_rises rises before after j k h l = go (place_is j) (place_is k)
    where
      size : length put ≡ length xs + 1
      size = length-insert xs i x within

      go : (j < i) ⊎ (j ≡ i) ⊎ (i < j) → (k < i) ⊎ (k ≡ i) ⊎ (i < k) → slice_index put j < slice_index put k
      go (inl a) (inl b) = let p = put_below j a in let q = put_below k b in let r = rises j k h (omega arith) in omega arith
      go (inl a) (inr (inl b)) = let p = put_below j a in let q = put_at k b in let r = before j a in omega arith
      go (inl a) (inr (inr b)) =
          let p = put_below j a in let q = put_above k b in let s = size in let r = rises j (k - 1) (omega arith) (omega arith) in omega arith
      go (inr (inl a)) (inr (inr b)) = let p = put_at j a in let q = put_above k b in let s = size in let r = after (k - 1) (omega arith) (omega arith) in omega arith
      go (inr (inr a)) (inr (inr b)) =
          let p = put_above j a in let q = put_above k b in let s = size in let r = rises (j - 1) (k - 1) (omega arith) (omega arith) in omega arith
      go (inr (inl a)) (inl b) = absurd (omega arith)
      go (inr (inl a)) (inr (inl b)) = absurd (omega arith)
      go (inr (inr a)) (inl b) = absurd (omega arith)
      go (inr (inr a)) (inr (inl b)) = absurd (omega arith)

  pub put_bounded : (m : ℕ) → x < m → ((k : ℕ) → k < length xs → slice_index xs k < m) → (k : ℕ) → k < length put → slice_index put k < m
  put_bounded m low all k l = go (place_is k)
    where
      size : length put ≡ length xs + 1
      size = length-insert xs i x within

      go : (k < i) ⊎ (k ≡ i) ⊎ (i < k) → slice_index put k < m
      go (inl a) = let p = put_below k a in let r = all k (omega arith) in omega arith
      go (inr (inl a)) = let p = put_at k a in omega arith
      go (inr (inr a)) = let p = put_above k a in let s = size in let r = all (k - 1) (omega arith) in omega arith

map-insert : {X Y : Type 0} (f : X → Y) (xs : List X) (i : ℕ) (x : X) → map f (insert xs i x) ≡ insert (map f xs) i (f x)
map-insert f xs i x =
    map-append f (take i xs) (x ∷ drop i xs) ∙ ap (λ l. l ++ f x ∷ map f (drop i xs)) (sym (take-map f i xs)) ∙ ap (λ l. take i (map f xs) ++ f x ∷ l) (sym (drop-map f i xs))

-- an arc put among arcs
module _ (xs : List GraphArc) (i : ℕ) (a : GraphArc) (within : i ≤ length xs) (rises : Rises xs) (new : arc_to xs a.feat.0 ≡ None)
    (before : (k : ℕ) → k < i → slice_index (feats_of xs) k < a.feat.0) (found : i < length xs → a.feat.0 ≤ slice_index (feats_of xs) i) where
  feats_size : length (feats_of xs) ≡ length xs
  feats_size = length-map xs (λ y. y.feat.0)

  targets_size : length (targets_of xs) ≡ length xs
  targets_size = length-map xs (λ y. y.to.0)

  after : (k : ℕ) → i ≤ k → k < length xs → a.feat.0 < slice_index (feats_of xs) k
  after k h l = strict (cases_lt i k)
    where
      differs : a.feat.0 ≢ slice_index (feats_of xs) k
      differs e =
          let there = arc_there xs k rises l in
          let both : None ≡ Some (slice_index (targets_of xs) k) = sym new ∙ ap (arc_to xs) e ∙ there in
          cc

      strict : (i < k) ⊎ (k ≤ i) → a.feat.0 < slice_index (feats_of xs) k
      strict (inl b) = let r = rises i k b l in let f = found (omega arith) in omega arith
      strict (inr b) =
          let e : i ≡ k = omega arith in
          let f = found (omega arith) in
          let d = ap (slice_index (feats_of xs)) e in
          below (cases_lt a.feat.0 (slice_index (feats_of xs) k)) (omega arith)
        where
          below : (a.feat.0 < slice_index (feats_of xs) k) ⊎ (slice_index (feats_of xs) k ≤ a.feat.0) → a.feat.0 ≤ slice_index (feats_of xs) k →
              a.feat.0 < slice_index (feats_of xs) k
          below (inl y) _ = y
          below (inr y) z = absurd (differs (omega arith))

  pub insert_rises : Rises (insert xs i a)
  insert_rises j k h l =
      let same = map-insert (λ y. y.feat.0) xs i a in
      let size = length-insert xs i a within in
      let size' = length-insert (feats_of xs) i a.feat.0 (let e = feats_size in omega arith) in
      subst (λ z. slice_index z j < slice_index z k) (sym same)
      (put_rises (feats_of xs) i a.feat.0 (let e = feats_size in omega arith) (λ m n p q. rises m n p (let e = feats_size in omega arith)) before
      (λ m p q. after m p (let e = feats_size in omega arith)) j k h (let e = feats_size in omega arith))

  pub insert_bounded : (m : ℕ) → a.to.0 < m → ((k : ℕ) → k < length xs → slice_index (targets_of xs) k < m) → (k : ℕ) → k < length (insert xs i a) →
      slice_index (targets_of (insert xs i a)) k < m
  insert_bounded m low all k l =
      let same = map-insert (λ y. y.to.0) xs i a in
      let size = length-insert xs i a within in
      let size' = length-insert (targets_of xs) i a.to.0 (let e = targets_size in omega arith) in
      subst (λ z. slice_index z k < m) (sym same)
      (put_bounded (targets_of xs) i a.to.0 (let e = targets_size in omega arith) m low (λ j h. all j (let e = targets_size in omega arith)) k
      (let e = targets_size in omega arith))

  abbrev is : ℕ → GraphArc → Bool
  is f y = y.feat.0 == f

  whole : (f : ℕ) → find (is f) xs ≡ option_or (find (is f) (take i xs)) (find (is f) (drop i xs))
  whole f = ap (find (is f)) (sym (take-append-drop i xs)) ∙ find-append (is f) (take i xs) (drop i xs)

  pub insert_here : arc_to (insert xs i a) a.feat.0 ≡ Some a.to.0
  insert_here =
      ap (option_map (λ y. y.to.0)) (find-append (is a.feat.0) (take i xs) (a ∷ drop i xs))
      ∙ ap (λ o. option_map (λ y. y.to.0) (option_or o (cond (a.feat.0 == a.feat.0) (Some a) (find (is a.feat.0) (drop i xs))))) none_before
      ∙ ap (λ b. option_map (λ y. y.to.0) (cond b (Some a) (find (is a.feat.0) (drop i xs)))) (eq-eqb a.feat.0 a.feat.0 refl)
    where
      none_of : (o : Option GraphArc) → option_map (λ y. y.to.0) o ≡ None → o ≡ None
      none_of None e = refl
      none_of (Some y) e = absurd cc

      first_none : (o r : Option GraphArc) → option_or o r ≡ None → o ≡ None
      first_none None r e = refl
      first_none (Some y) r e = absurd cc

      none_before : find (is a.feat.0) (take i xs) ≡ None
      none_before = first_none (find (is a.feat.0) (take i xs)) (find (is a.feat.0) (drop i xs)) (sym (whole a.feat.0) ∙ none_of (find (is a.feat.0) xs) new)

  pub insert_other : (f : ℕ) → f ≢ a.feat.0 → arc_to (insert xs i a) f ≡ arc_to xs f
  insert_other f apart =
      ap (option_map (λ y. y.to.0)) (find-append (is f) (take i xs) (a ∷ drop i xs))
      ∙ ap (λ b. option_map (λ y. y.to.0) (option_or (find (is f) (take i xs)) (cond b (Some a) (find (is f) (drop i xs))))) (ne_eqb a.feat.0 f (λ e. apart (sym e)))
      ∙ ap (option_map (λ y. y.to.0)) (sym (whole f))

-- one node's arcs are others
module _ (types : List Ty) (rows : List (Vec GraphArc Global)) (drawn : IsDrawn types rows) (from : ℕ) (h : from < length types) (v w : Vec GraphArc Global)
    (read : v ≡ slice_index_or rows from v) where
  abbrev changed : List (Vec GraphArc Global)
  changed = set rows from w

  from_in : from < length rows
  from_in = let e = drawn.even in omega arith

  at_from : arcs_at (drawn_map types changed) from ≡ w.items
  at_from =
      ap (λ l. slice_index_or l from []) (map-set (λ r. r.items) rows from w)
      ∙ get_or-set_same (map (λ r. r.items) rows) from w.items [] (let e = length-map rows (λ r. r.items) in let l = from_in in omega arith)

  at_other : (n : ℕ) → n ≢ from → arcs_at (drawn_map types changed) n ≡ arcs_at (drawn_map types rows) n
  at_other n e =
      ap (λ l. slice_index_or l n []) (map-set (λ r. r.items) rows from w) ∙ get_or-set_other (map (λ r. r.items) rows) from n w.items [] e

  pub was_at : arcs_at (drawn_map types rows) from ≡ v.items
  was_at = get_or-map (λ r. r.items) rows from v [] from_in ∙ ap (λ r. r.items) (sym read)

  pub drawn_changed : Rises w.items → ((k : ℕ) → k < length w.items → slice_index (targets_of w.items) k < length types) → IsDrawn types changed
  drawn_changed rises bounded = record {
    filled = drawn.filled;
    few = drawn.few;
    even = length-set rows from w ∙ drawn.even;
    rises = λ n l. rises_at n l (same_or_other n from);
    to_in = λ n i l m. to_in n i l m (same_or_other n from);
  }
    where
      rises_at : (n : ℕ) → n < length types → (n ≡ from) ⊎ (n ≢ from) → Rises (arcs_at (drawn_map types changed) n)
      rises_at n l (inl e) = subst (λ z. Rises (arcs_at (drawn_map types changed) z)) (sym e) (subst Rises (sym at_from) rises)
      rises_at n l (inr e) = subst Rises (sym (at_other n e)) (drawn.rises n l)

      to_in : (n i : ℕ) → n < length types → i < length (arcs_at (drawn_map types changed) n) → (n ≡ from) ⊎ (n ≢ from) →
          slice_index (targets_of (arcs_at (drawn_map types changed) n)) i < length types
      to_in n i l m (inl e) =
          let is : arcs_at (drawn_map types changed) n ≡ w.items = ap (arcs_at (drawn_map types changed)) e ∙ at_from in
          subst (λ z. slice_index (targets_of z) i < length types) (sym is) (bounded i (subst (λ z. i < length z) is m))
      to_in n i l m (inr e) =
          subst (λ z. slice_index (targets_of z) i < length types) (sym (at_other n e)) (drawn.to_in n i l (subst (λ z. i < length z) (at_other n e) m))

  -- the same arcs
  pub drawn_same : w.items ≡ v.items → IsDrawn types changed × (drawn_map types changed ≡ drawn_map types rows)
  drawn_same e = (
    drawn_changed (subst Rises (sym is) (drawn.rises from h))
        (λ k l. subst (λ z. slice_index (targets_of z) k < length types) (sym is) (drawn.to_in from k h (subst (λ z. k < length z) is l))),
    ap (λ l. record { types = map (λ t. t.0) types; arcs = l }) same,
  )
    where
      is : w.items ≡ arcs_at (drawn_map types rows) from
      is = e ∙ sym was_at

      same : map (λ r. r.items) changed ≡ map (λ r. r.items) rows
      same = map-set (λ r. r.items) rows from w ∙ ap (set (map (λ r. r.items) rows) from) is ∙ set-get_or (map (λ r. r.items) rows) from []

  -- one arc more
  pub drawn_more : (i : ℕ) (feat to : ℕ) → w.items ≡ insert v.items i (record { feat = record { 0 = feat }; to = record { 0 = to } }) → i ≤ length v.items → to < length types →
      arc_to (arcs_at (drawn_map types rows) from) feat ≡ None → ((k : ℕ) → k < i → slice_index (feats_of v.items) k < feat) →
      (i < length v.items → feat ≤ slice_index (feats_of v.items) i) → IsDrawn types changed × AddsArc (drawn_map types rows) (drawn_map types changed) from feat to
  drawn_more i feat to is within low none before found = (
    drawn_changed (subst Rises (sym is) (insert_rises v.items i a within rises none' before found))
        (subst (λ z. (k : ℕ) → k < length z → slice_index (targets_of z) k < length types) (sym is)
        (insert_bounded v.items i a within rises none' before found (length types) low bounded)),
    record { types = refl; here = here_is; others = λ n f d. others n f d (same_or_other n from) },
  )
    where
      a : GraphArc
      a = record { feat = record { 0 = feat }; to = record { 0 = to } }

      rises : Rises v.items
      rises = subst Rises was_at (drawn.rises from h)

      bounded : (k : ℕ) → k < length v.items → slice_index (targets_of v.items) k < length types
      bounded = subst (λ z. (k : ℕ) → k < length z → slice_index (targets_of z) k < length types) was_at (λ k l. drawn.to_in from k h l)

      none' : arc_to v.items feat ≡ None
      none' = ap (λ l. arc_to l feat) (sym was_at) ∙ none

      here_is : arc_to (arcs_at (drawn_map types changed) from) feat ≡ Some to
      here_is = ap (λ l. arc_to l feat) (at_from ∙ is) ∙ insert_here v.items i a within rises none' before found

      others : (n f : ℕ) → (n ≢ from) ⊎ (f ≢ feat) → (n ≡ from) ⊎ (n ≢ from) →
          arc_to (arcs_at (drawn_map types changed) n) f ≡ arc_to (arcs_at (drawn_map types rows) n) f
      others n f _ (inr e) = ap (λ l. arc_to l f) (at_other n e)
      others n f (inl d) (inl e) = absurd (d e)
      others n f (inr d) (inl e) =
          ap (λ z. arc_to (arcs_at (drawn_map types changed) z) f) e ∙ ap (λ l. arc_to l f) (at_from ∙ is) ∙ insert_other v.items i a within rises none' before found f d
          ∙ ap (λ l. arc_to l f) (sym was_at) ∙ ap (λ z. arc_to (arcs_at (drawn_map types rows) z) f) (sym e)

-- the rows as one list
abbrev pub items : Vec GraphArc Global → List GraphArc
items r = r.items

drawn_rows : (types : List Ty) (rows : List (Vec GraphArc Global)) (d : Vec GraphArc Global) → IsDrawn types rows → (starts : List ℕ) (arcs : List GraphArc) →
    starts ≡ map (starts_of items rows) (range_with_len 0 (length rows)) → arcs ≡ flat_map items rows →
    ArePlan types (starts ++ length arcs ∷ []) arcs × (graph_map types (starts ++ length arcs ∷ []) arcs ≡ drawn_map types rows)
drawn_rows types rows d drawn starts arcs s_are a_are = (
  record {
    filled = drawn.filled;
    few = drawn.few;
    rows = rows_are items rows d starts arcs s_are a_are (length types) (sym drawn.even);
    rises = λ n h. subst Rises (sym (row_drawn n h)) (drawn.rises n h);
    to_in = λ n k h l.
        subst (λ z. slice_index (targets_of z) k < length types) (sym (row_drawn n h)) (drawn.to_in n k h (subst (λ z. k < length z) (row_drawn n h) l));
  },
  ap (λ l. record { types = map (λ t. t.0) types; arcs = l }) (ext_get_or [] _ _ sizes (λ k h. each k (let e = length-map-range_with_len (row ends arcs) 0 (length types) in omega arith))),
)
  where
    ends : List ℕ
    ends = starts ++ length arcs ∷ []

    row_drawn : (n : ℕ) → n < length types → row (starts ++ length arcs ∷ []) arcs n ≡ arcs_at (drawn_map types rows) n
    row_drawn n h =
        let l : n < length rows = (let e = drawn.even in omega arith) in
        row_is items rows d starts arcs s_are a_are n l ∙ sym (get_or-map items rows n d [] l)

    sizes : length (map (row (starts ++ length arcs ∷ []) arcs) (range_with_len 0 (length types))) ≡ length (map items rows)
    sizes = length-map-range_with_len (row (starts ++ length arcs ∷ []) arcs) 0 (length types) ∙ sym drawn.even ∙ sym (length-map rows items)

    each : (k : ℕ) → k < length types → arcs_at (graph_map types (starts ++ length arcs ∷ []) arcs) k ≡ arcs_at (drawn_map types rows) k
    each k h = row_at types (starts ++ length arcs ∷ []) arcs k h ∙ row_drawn k h

pub drawn_plan : (types types' : List Ty) (rows : List (Vec GraphArc Global)) → IsDrawn types rows → (starts starts' : List ℕ) (arcs arcs' : List GraphArc) (at i : ℕ) → i ≡ length rows →
    starts ≡ map (starts_of items rows) (range_with_len 0 i) → arcs ≡ flat_map items (take i rows) → types' ≡ types → starts' ≡ starts ++ at ∷ [] → at ≡ length arcs → arcs' ≡ arcs →
    ArePlan types' starts' arcs' × (graph_map types' starts' arcs' ≡ drawn_map types rows)
drawn_plan types types' [] drawn starts starts' arcs arcs' at i e s_are a_are t_is s_is at_is a_is =
    absurd (let f = drawn.filled in let g = drawn.even in omega arith)
drawn_plan types types' (r ∷ rs) drawn starts starts' arcs arcs' at i e s_are a_are t_is s_is at_is a_is =
    subst (λ z. ArePlan z starts' arcs' × (graph_map z starts' arcs' ≡ drawn_map types (r ∷ rs))) (sym t_is)
    (subst (λ z. ArePlan types z arcs' × (graph_map types z arcs' ≡ drawn_map types (r ∷ rs))) (sym (s_is ∙ ap (λ z. starts ++ z ∷ []) at_is))
    (subst (λ z. ArePlan types (starts ++ length arcs ∷ []) z × (graph_map types (starts ++ length arcs ∷ []) z ≡ drawn_map types (r ∷ rs))) (sym a_is)
    (drawn_rows types (r ∷ rs) r drawn starts arcs (s_are ∙ ap (λ z. map (starts_of items (r ∷ rs)) (range_with_len 0 z)) e)
    (a_are ∙ ap (λ z. flat_map items (take z (r ∷ rs))) e ∙ ap (flat_map items) (take_all (length (r ∷ rs)) (r ∷ rs) (omega arith))))))
