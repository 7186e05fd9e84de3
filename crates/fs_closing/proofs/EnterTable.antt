-- The table after a graph entered.
use Rattle.std.proofs.Common.{ℕ, ◌≡◌, ◌≤◌, ◌<◌, ◌+◌, ◌-◌, ◌^◌, ◌⊎◌, inl, inr, true, false, Option, None, List, [], ◌∷◌, ◌++◌, length, map, slice_index_or, refl, sym, ◌∙◌, ap, subst, arith, eq-eqb}
use Rattle.std.proofs.lemmas.Bool.{cases_lt, ne_eqb}
use Rattle.std.proofs.lemmas.List.{get_or-map, length-map, get_or_past}
use Rattle.fs_model.specs.Claims.{Has}
use Rattle.fs_graph.specs.declared.graph.GraphArc.{GraphArc}
use Rattle.fs_graph.specs.GraphMap.{GraphMap, IsGraph, arcs_at, type_at}
use Rattle.fs_closing.specs.declared.marks.Written.{Written}
use Rattle.fs_closing.specs.declared.cells.Cell.{Cell}
use Rattle.fs_closing.specs.Cells.{find_arc, AreOnce}
use Rattle.fs_closing.specs.Marked.{next_by, type_by, first_by, depth_by}
use Rattle.fs_closing.specs.declared.parts.Based.{Based}
use Rattle.fs_closing.specs.Beside.{cells_from, type_from, depth_from, row_from, type_in, depth_in, row_in, ArePlaced}
use Rattle.fs_closing.specs.NodeTable.{table_from, AreWhole, AreWithin}
use Rattle.fs_closing.specs.NodeSteps.{EntersTable, IsGraphIn}
use Rattle.fs_closing.proofs.HasLemmas.{Has-of_map, each_push}
use Rattle.fs_closing.proofs.BesideLemmas.{home_old, home_new, home_past, find_from, once_from, rises_found}
use Rattle.fs_closing.proofs.WiderLemmas.{row_wider_old, row_wider_new, live_wider, live_wider_new, whole_wider}

-- the rows of a graph whose nodes begin at a number
abbrev pub graph_rows : ℕ → GraphMap → List (List Cell)
graph_rows base g = map (cells_from base) g.arcs

module _ (g : GraphMap) (graph : IsGraph g) (base : ℕ) where
  row_at : (k : ℕ) → k < length g.types → slice_index_or (graph_rows base g) k [] ≡ cells_from base (arcs_at g k)
  row_at k h = get_or-map (cells_from base) g.arcs k [] [] (omega (arith, graph.even))

  pub length_rows : length (graph_rows base g) ≡ length g.types
  length_rows = length-map g.arcs (cells_from base) ∙ graph.even

  once_at : (k : ℕ) → k < length g.types → AreOnce (slice_index_or (graph_rows base g) k [])
  once_at k h = subst AreOnce (sym (row_at k h)) (once_from base (arcs_at g k) (graph.rises k h))

  -- an arc of a row comes from one of the graph
  cell_of : (k : ℕ) (c : Cell) → Has c (slice_index_or (graph_rows base g) k []) →
      (k < length g.types) × (a : GraphArc) × Has a (arcs_at g k) × (c.feat ≡ a.feat.0) × (c.to ≡ base + a.to.0)
  cell_of k c h = go (cases_lt k (length g.types))
    where
      go : (k < length g.types) ⊎ (length g.types ≤ k) →
          (k < length g.types) × (a : GraphArc) × Has a (arcs_at g k) × (c.feat ≡ a.feat.0) × (c.to ≡ base + a.to.0)
      go (inl i) =
          let r = Has-of_map (λ (a : GraphArc). record { feat = a.feat.0; to = base + a.to.0; next = 0 }) c (arcs_at g k) (subst (Has c) (row_at k i) h) in
          (i, r.0, r.1, ap (λ x. x.feat) r.2, ap (λ x. x.to) r.2)
      go (inr i) =
          absurd (elim (subst (Has c) (get_or_past (graph_rows base g) k [] (omega (arith, length_rows))) h) [ ])

  to_at : (k : ℕ) (c : Cell) → Has c (slice_index_or (graph_rows base g) k []) → c.to < base + length g.types
  to_at k c h =
      let r = cell_of k c h in
      let found = rises_found (arcs_at g k) r.1 (graph.rises k r.0) r.2 in
      let inside = graph.numbered.table.arc_in k r.1.feat.0 r.1.to.0 r.0 found in
      omega (arith, r.4)

-- A graph enters after all others. What is written at nodes stays as it was.
module _ (at at' : ℕ → Option Written) (cells : List Cell) (merges size : ℕ) (parts : List Based) (p : Based) (graph : IsGraph p.graph.now) (placed : ArePlaced parts size)
    (whole : AreWhole at (row_in parts) cells merges size) (base_is : p.base ≡ size) (same : (k : ℕ) → at' k ≡ at k) (room : size + length p.graph.now.types < 2 ^ 32) where
  abbrev g : GraphMap
  g = p.graph.now

  abbrev own : ℕ → List Cell
  own n = row_in parts n

  abbrev own' : ℕ → List Cell
  own' n = row_in (parts ++ p ∷ []) n

  abbrev own_type : ℕ → ℕ
  own_type n = type_in parts n

  abbrev own_type' : ℕ → ℕ
  own_type' n = type_in (parts ++ p ∷ []) n

  own_old : (k : ℕ) → k < size → own' k ≡ own k
  own_old k h = ap (row_from k) (home_old parts size placed p base_is k h)

  own_right : (k : ℕ) → size ≤ k → own' k ≡ slice_index_or (graph_rows size g) (k - size) []
  own_right k low = go (cases_lt (k - size) (length p.graph.now.types))
    where
      go : (k - size < length p.graph.now.types) ⊎ (length p.graph.now.types ≤ k - size) → own' k ≡ slice_index_or (graph_rows size g) (k - size) []
      go (inl h) =
          ap (row_from k) (home_new parts size placed p base_is k low h) ∙ ap (λ b. cells_from b (arcs_at g (k - b))) base_is
          ∙ sym (row_at g graph size (k - size) h)
      go (inr h) =
          ap (row_from k) (home_past parts size placed p base_is k low h)
          ∙ sym (get_or_past (graph_rows size g) (k - size) [] (omega (arith, length_rows g graph size, h)))

  own_new : (k : ℕ) → k < length g.types → own' (size + k) ≡ cells_from size (arcs_at g k)
  own_new k h =
      own_right (size + k) (omega arith)
      ∙ ap (λ i. slice_index_or (graph_rows size g) i []) (let d : size + k - size ≡ k = omega arith in d)
      ∙ row_at g graph size k h

  type_old : (k : ℕ) → k < size → own_type' k ≡ own_type k
  type_old k h = ap (type_from k) (home_old parts size placed p base_is k h)

  type_new : (k : ℕ) → k < length g.types → own_type' (size + k) ≡ type_at g k
  type_new k h =
      let back : size + k - p.base ≡ k = omega (arith, base_is) in
      let high : size + k - size < length p.graph.now.types = omega (arith, h) in
      ap (type_from (size + k)) (home_new parts size placed p base_is (size + k) (omega arith) high) ∙ ap (type_at g) back

  next_same : (k : ℕ) → next_by k (at' k) ≡ next_by k (at k)
  next_same k = ap (next_by k) (same k)

  first_same : (k : ℕ) → first_by (at' k) ≡ first_by (at k)
  first_same k = ap first_by (same k)

  is_none : (k : ℕ) → size ≤ k → at' k ≡ None
  is_none k h = same k ∙ whole.unwritten k h

  pub table_entered : EntersTable g (table_from at own_type own cells merges size) (table_from at' own_type' own' cells merges (size + length g.types))
  table_entered = record {
    size_is = refl;
    live_old = λ k h. live_wider at at' own own' cells merges size whole next_same first_same own_old k;
    live_new = live_wider_new at at' own own' cells merges size whole next_same first_same own_old;
    arc_old = λ k f h. ap (λ r. find_arc r f) (row_wider_old at at' own own' cells merges size whole next_same first_same own_old k h);
    arc_new = λ k f h.
        ap (λ r. find_arc r f) (row_wider_new at at' own own' cells merges size whole next_same first_same own_old (size + k) (omega arith) ∙ own_new k h)
        ∙ find_from size (arcs_at g k) f;
    type_old = λ k h. ap (type_by (own_type' k)) (same k) ∙ ap (λ t. type_by t (at k)) (type_old k h);
    type_new = λ k h. ap (type_by (own_type' (size + k))) (is_none (size + k) (omega arith)) ∙ type_new k h;
  }

  -- an own arc is an old one or one of the graph
  own_case : (n : ℕ) (c : Cell) → Has c (own' n) → Has c (own n) ⊎ Has c (slice_index_or (graph_rows size g) (n - size) [])
  own_case n c h = go (cases_lt n size)
    where
      go : (n < size) ⊎ (size ≤ n) → Has c (own n) ⊎ Has c (slice_index_or (graph_rows size g) (n - size) [])
      go (inl a) = inl (subst (Has c) (own_old n a) h)
      go (inr a) = inr (subst (Has c) (own_right n a) h)

  pub whole_entered : AreWhole at' own' cells merges (size + length g.types)
  whole_entered =
      whole_wider at at' own own' cells merges size whole next_same first_same own_old (size + length g.types) (omega arith) room once_new own_in own_none
      (λ k h. is_none k (omega arith))
    where
      once_new : (k : ℕ) → size ≤ k → k < size + length g.types → AreOnce (own' k)
      once_new k low high = subst AreOnce (sym (own_right k low)) (once_at g graph size (k - size) (omega arith))

      own_in : (n : ℕ) (c : Cell) → Has c (own' n) → c.to < size + length g.types
      own_in n c h = go (own_case n c h)
        where
          go : Has c (own n) ⊎ Has c (slice_index_or (graph_rows size g) (n - size) []) → c.to < size + length g.types
          go (inl i) = omega (arith, whole.own_in n c i)
          go (inr i) = to_at g graph size (n - size) c i

      own_none : (n : ℕ) → size + length g.types ≤ n → own' n ≡ []
      own_none n h = own_right n (omega arith) ∙ get_or_past (graph_rows size g) (n - size) [] (omega (arith, length_rows g graph size, h))

  pub within_entered : (a b : ℕ) → IsGraphIn a b g → AreWithin a b (λ k. type_by (own_type k) (at k)) own cells size →
      AreWithin a b (λ k. type_by (own_type' k) (at' k)) own' cells (size + length g.types)
  within_entered a b inside old = record {
    type_in = λ k h. type_in k h (cases_lt k size);
    feat_in = old.feat_in;
    own_feat = λ n c h. own_feat n c (own_case n c h);
  }
    where
      type_in : (k : ℕ) → k < size + length g.types → (k < size) ⊎ (size ≤ k) → type_by (own_type' k) (at' k) < a
      type_in k h (inl i) = subst (λ x. x < a) (sym (table_entered.type_old k i)) (old.type_in k i)
      type_in k h (inr i) =
          let e : size + (k - size) ≡ k = omega arith in
          subst (λ j. type_by (own_type' j) (at' j) < a) e
          (subst (λ x. x < a) (sym (table_entered.type_new (k - size) (omega arith))) (inside.types_in (k - size) 0 (omega arith)))

      own_feat : (n : ℕ) (c : Cell) → Has c (own n) ⊎ Has c (slice_index_or (graph_rows size g) (n - size) []) → c.feat < b
      own_feat n c (inl h) = old.own_feat n c h
      own_feat n c (inr h) =
          let r = cell_of g graph size (n - size) c h in let low = inside.feats_in (n - size) r.1 r.0 r.2 in omega (arith, r.3, low)

  pub placed_entered : ArePlaced (parts ++ p ∷ []) (size + length g.types)
  placed_entered = each_push (λ q. IsGraph q.graph.now × (q.base + length q.graph.now.types ≤ size + length g.types)) parts _ p refl
      (λ q h. let x = placed q h in (x.0, omega (arith, x.1)))
      (graph, omega (arith, base_is))

  depth_none : (k : ℕ) → size ≤ k → depth_by (depth_in (parts ++ p ∷ []) k) (at' k) ≡ depth_in (parts ++ p ∷ []) k
  depth_none k h = ap (depth_by (depth_in (parts ++ p ∷ []) k)) (is_none k h)

  -- old nodes keep their depths, the graph's root has one, and its other nodes have another one
  pub depth_old : (k : ℕ) → k < size → depth_by (depth_in (parts ++ p ∷ []) k) (at' k) ≡ depth_by (depth_in parts k) (at k)
  depth_old k h = ap (depth_by (depth_in (parts ++ p ∷ []) k)) (same k) ∙ ap (λ d. depth_by d (at k)) (ap (depth_from k) (home_old parts size placed p base_is k h))

  pub depth_root : 0 < length g.types → depth_by (depth_in (parts ++ p ∷ []) size) (at' size) ≡ p.depth
  depth_root h =
      let high : size - size < length p.graph.now.types = omega (arith, h) in
      depth_none size (omega arith) ∙ ap (depth_from size) (home_new parts size placed p base_is size (omega arith) high)
      ∙ ap (λ b. elim b as (λ _. ℕ) [ true ↦ p.depth | false ↦ p.further ]) (eq-eqb size p.base (sym base_is))

  pub depth_inner : (k : ℕ) → 0 < k → k < length g.types → depth_by (depth_in (parts ++ p ∷ []) (size + k)) (at' (size + k)) ≡ p.further
  depth_inner k pos h =
      let high : size + k - size < length p.graph.now.types = omega (arith, h) in
      depth_none (size + k) (omega arith) ∙ ap (depth_from (size + k)) (home_new parts size placed p base_is (size + k) (omega arith) high)
      ∙ ap (λ b. elim b as (λ _. ℕ) [ true ↦ p.depth | false ↦ p.further ]) (ne_eqb (size + k) p.base (λ e. omega (arith, e, base_is, pos)))

  pub depth_past : (k : ℕ) → size + length g.types ≤ k → depth_by (depth_in (parts ++ p ∷ []) k) (at' k) ≡ 0
  depth_past k h =
      let high : length p.graph.now.types ≤ k - size = omega (arith, h) in
      depth_none k (omega arith) ∙ ap (depth_from k) (home_past parts size placed p base_is k (omega arith) high)
