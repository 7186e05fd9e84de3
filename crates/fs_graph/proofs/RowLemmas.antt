-- Rows of arcs.
use Rattle.std.proofs.Common.{ℕ, zero, suc, ◌≡◌, ◌≤◌, ◌<◌, ◌+◌, ◌-◌, ◌==◌, Bool, true, false, cond, Some, option_map, List, [], ◌∷◌, length, map, take, drop, slice_index_or, refl, sym, ◌∙◌, ap, subst, arith, eq-eqb}
use Rattle.std.specs.List.{between, find}
use Rattle.std.proofs.lemmas.Bool.{eqb-true, ne_eqb}
use Rattle.std.proofs.lemmas.List.{take-map, drop-map, get_or_read}
use Rattle.std.proofs.lemmas.List.Edits.{get_or-between, length-between}
use Rattle.std.proofs.lemmas.List.FromFn.{get_or-map-range_with_len}
use Rattle.fs_model.specs.DepthFirst.{Plan, IsArc, AreArcs}
use Rattle.type_hierarchy.specs.declared.types.Ty.{Ty}
use Rattle.fs_graph.specs.declared.graph.GraphArc.{GraphArc}
use Rattle.fs_graph.specs.GraphMap.{arc_to, arcs_at, table_of, Rises}
use Rattle.fs_graph.specs.Inside.{row, graph_map, AreRows}
use Rattle.fs_graph.specs.Orders.{ArePlan}
use Rattle.fs_graph.specs.Visits.{feats_of, targets_of, plan_of}
use Rattle.fs_graph.specs.Inner.Going.{IsVisitable}

-- the row of a node in the graph of the rows
pub row_at : (types : List Ty) (starts : List ℕ) (arcs : List GraphArc) (n : ℕ) → n < length types → arcs_at (graph_map types starts arcs) n ≡ row starts arcs n
row_at types starts arcs n h = get_or-map-range_with_len (row starts arcs) 0 (length types) n n [] h (omega arith)

map-between : {X Y : Type 0} (f : X → Y) (i j : ℕ) (xs : List X) → map f (between i j xs) ≡ between i j (map f xs)
map-between f i j xs = sym (take-map f (j - i) (drop i xs)) ∙ ap (take (j - i)) (sym (drop-map f i xs))

-- an element of a row is an element of all arcs
pub row_index : (f : GraphArc → ℕ) (starts : List ℕ) (arcs : List GraphArc) (n k : ℕ) → slice_index_or starts n 0 + k < slice_index_or starts (n + 1) 0 →
    slice_index_or (map f (row starts arcs n)) k 0 ≡ slice_index_or (map f arcs) (slice_index_or starts n 0 + k) 0
row_index f starts arcs n k h =
    ap (λ l. slice_index_or l k 0) (map-between f (slice_index_or starts n 0) (slice_index_or starts (n + 1) 0) arcs)
    ∙ get_or-between (map f arcs) (slice_index_or starts n 0) (slice_index_or starts (n + 1) 0) k 0 h

pub row_length : (starts : List ℕ) (arcs : List GraphArc) (n : ℕ) → slice_index_or starts (n + 1) 0 ≤ length arcs →
    length (row starts arcs n) ≡ slice_index_or starts (n + 1) 0 - slice_index_or starts n 0
row_length starts arcs n h = length-between arcs (slice_index_or starts n 0) (slice_index_or starts (n + 1) 0) h

-- a look-up finds an arc of the list
pub arc_found : (xs : List GraphArc) (f m : ℕ) → arc_to xs f ≡ Some m →
    (k : ℕ) × (k < length xs) × (slice_index_or (feats_of xs) k 0 ≡ f) × (slice_index_or (targets_of xs) k 0 ≡ m)
arc_found [] f m e = absurd cc
arc_found (x ∷ xs) f m e = go (x.feat.0 == f) refl e (arc_found xs f m)
  where
    go : (b : Bool) → (x.feat.0 == f) ≡ b → option_map (λ a. a.to.0) (cond b (Some x) (find (λ a. a.feat.0 == f) xs)) ≡ Some m →
        (arc_to xs f ≡ Some m → (k : ℕ) × (k < length xs) × (slice_index_or (feats_of xs) k 0 ≡ f) × (slice_index_or (targets_of xs) k 0 ≡ m)) →
        (k : ℕ) × (k < suc (length xs)) × (slice_index_or (feats_of (x ∷ xs)) k 0 ≡ f) × (slice_index_or (targets_of (x ∷ xs)) k 0 ≡ m)
    go true is e' rest = (0, omega arith, eqb-true x.feat.0 f is, cc)
    go false is e' rest = let r = rest e' in let h = r.1 in (suc r.0, omega arith, r.2, r.3)

rises_rest : (x : GraphArc) (xs : List GraphArc) → Rises (x ∷ xs) → Rises xs
rises_rest x xs r i j h l = r (suc i) (suc j) (omega arith) (omega arith)

-- and each arc, where features rise
pub arc_there : (xs : List GraphArc) (k : ℕ) → Rises xs → k < length xs → arc_to xs (slice_index_or (feats_of xs) k 0) ≡ Some (slice_index_or (targets_of xs) k 0)
arc_there [] k r h = absurd (omega arith)
arc_there (x ∷ xs) zero r h = ap (λ b. option_map (λ a. a.to.0) (cond b (Some x) (find (λ a. a.feat.0 == x.feat.0) xs))) (eq-eqb x.feat.0 x.feat.0 refl)
arc_there (x ∷ xs) (suc k) r h =
    let f = slice_index_or (feats_of xs) k 0 in
    let low : x.feat.0 < f = r 0 (suc k) (omega arith) h in
    ap (λ b. option_map (λ a. a.to.0) (cond b (Some x) (find (λ a. a.feat.0 == f) xs))) (ne_eqb x.feat.0 f (λ e. absurd (omega arith)))
    ∙ arc_there xs k (rises_rest x xs r) (omega arith)

module _ (types : List Ty) (starts : List ℕ) (arcs : List GraphArc) (plan : ArePlan types starts arcs) where
  abbrev p : Plan
  p = plan_of (length types) starts arcs

  abbrev start : ℕ → ℕ
  start n = slice_index_or starts n 0

  pub in_row : (n i : ℕ) → n < length types → IsArc p n i → (k : ℕ) × (start n + k ≡ i) × (k < length (row starts arcs n))
  in_row n i h arc =
      let low = arc.0 in
      let high = arc.1 in
      let inside : start (n + 1) ≤ length arcs = plan.rows.inside (n + 1) (omega arith) in
      let size = row_length starts arcs n inside in
      (i - start n, omega arith, omega arith)

  pub of_row : (n k : ℕ) → n < length types → k < length (row starts arcs n) → IsArc p n (start n + k)
  of_row n k h l =
      let inside : start (n + 1) ≤ length arcs = plan.rows.inside (n + 1) (omega arith) in
      let size = row_length starts arcs n inside in
      (omega arith, omega arith)

  pub visitable : IsVisitable (length types) starts arcs
  visitable = record {
    plan = record {
      rise = λ n h. plan.rows.rise n h;
      rising = rising;
      to_in = λ n i h arc.
          let at = in_row n i h arc in
          let is = at.1 in
          let high = arc.1 in
          subst (λ z. z < length types) (row_index (λ x. x.to.0) starts arcs n at.0 (omega arith) ∙ ap p.to is) (plan.to_in n at.0 h at.2);
    };
    filled = plan.filled;
    few = plan.few;
    one_more = plan.rows.one_more;
    inside = plan.rows.inside;
  }
    where
      rising : (n i j : ℕ) → n < length types → start n ≤ i → i < j → j < start (n + 1) → p.feat i < p.feat j
      rising n i j h a b c =
          let at_i = in_row n i h (a, omega arith) in
          let at_j = in_row n j h (omega arith, c) in
          let i_is = at_i.1 in
          let j_is = at_j.1 in
          let r = plan.rises n h at_i.0 at_j.0 (omega arith) at_j.2 in
          let e = row_index (λ x. x.feat.0) starts arcs n at_i.0 (omega arith) ∙ ap p.feat i_is in
          let d = row_index (λ x. x.feat.0) starts arcs n at_j.0 (omega arith) ∙ ap p.feat j_is in
          omega arith

  -- the arcs of the graph of the rows are the arcs of the plan
  pub are_arcs : AreArcs p (table_of (graph_map types starts arcs)).arc
  are_arcs = record { found = found; there = there }
    where
      found : (n f m : ℕ) → n < length types → arc_to (arcs_at (graph_map types starts arcs) n) f ≡ Some m →
          (i : ℕ) × IsArc p n i × (p.feat i ≡ f) × (p.to i ≡ m)
      found n f m h e =
          let r = arc_found (row starts arcs n) f m (ap (λ l. arc_to l f) (sym (row_at types starts arcs n h)) ∙ e) in
          let arc = of_row n r.0 h r.1 in (
            start n + r.0,
            arc,
            sym (row_index (λ x. x.feat.0) starts arcs n r.0 arc.1) ∙ r.2,
            sym (row_index (λ x. x.to.0) starts arcs n r.0 arc.1) ∙ r.3,
          )

      there : (n i : ℕ) → n < length types → IsArc p n i → arc_to (arcs_at (graph_map types starts arcs) n) (p.feat i) ≡ Some (p.to i)
      there n i h arc =
          let at = in_row n i h arc in
          let is = at.1 in
          let high = arc.1 in
          let in_k : start n + at.0 < start (n + 1) = omega arith in
          let feat = row_index (λ x. x.feat.0) starts arcs n at.0 in_k ∙ ap p.feat is in
          let to = row_index (λ x. x.to.0) starts arcs n at.0 in_k ∙ ap p.to is in
          ap (λ l. arc_to l (p.feat i)) (row_at types starts arcs n h) ∙ ap (arc_to (row starts arcs n)) (sym feat)
          ∙ arc_there (row starts arcs n) at.0 (plan.rises n h) at.2 ∙ ap Some to

-- what a reader of the rows gets
pub read_row : (types : List Ty) (starts : List ℕ) (arcs now : List GraphArc) (n from end : ℕ) → AreRows (length types) starts (length arcs) → n < length types →
    from ≡ slice_index_or starts n from → end ≡ slice_index_or starts (n + 1) end → now ≡ arcs →
    take (end - from) (drop from now) ≡ arcs_at (graph_map types starts arcs) n
read_row types starts arcs now n from end rows h a b e =
    let one = rows.one_more in
    let a' = get_or_read starts n from (omega arith) a 0 in
    let b' = get_or_read starts (n + 1) end (omega arith) b 0 in
    ap (λ l. take (end - from) (drop from l)) e ∙ ap (λ z. take (end - z) (drop z arcs)) a' ∙ ap (λ z. take (z - slice_index_or starts n 0) (drop (slice_index_or starts n 0) arcs)) b'
    ∙ sym (row_at types starts arcs n h)
