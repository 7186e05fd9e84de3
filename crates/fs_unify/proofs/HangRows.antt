-- Rows of what hangs in a graph and what leads to it.
use Rattle.std.specs.Prelude.{ℕ, ◌≡◌, ◌<◌, ◌+◌, ◌^◌, Bool, List, [], ◌∷◌, ◌++◌, length, map, take, slice_index, slice_index_or}
use Rattle.std.specs.List.{flat_map, range_with_len}
use Rattle.std.proofs.Common.{sym, ◌∙◌, ap, subst, arith}
use Rattle.std.proofs.lemmas.List.{take_more, take_all, map_push, map-append, length-map}
use Rattle.std.proofs.lemmas.List.FromFn.{get_or-range_with_len, length-range_with_len, get_or-map-range_with_len}
use Rattle.type_hierarchy.specs.declared.types.Ty.{Ty}
use Rattle.fs_graph.specs.declared.graph.GraphArc.{GraphArc}
use Rattle.fs_graph.specs.GraphMap.{GraphMap, IsGraph, arcs_at, Rises}
use Rattle.fs_graph.specs.Inside.{row}
use Rattle.fs_graph.specs.Inner.Renumbering.{starts_of}
use Rattle.fs_graph.specs.Visits.{feats_of, targets_of}
use Rattle.fs_graph.proofs.FlatLemmas.{flat-more, starts-more, row_is, rows_are}
use Rattle.fs_graph.proofs.RowLemmas.{arc_there}
use Rattle.fs_drawing.proofs.FilterLemmas.{filter_index, rises-filter}
use Rattle.fs_unify.specs.Inner.Hanging.{kept_at, kept_type, IsKeptPlan, AreKeptRows}

module _ (hang lead : List Bool) (g : GraphMap) where
  abbrev nodes : List ℕ
  nodes = range_with_len 0 (length g.types)

  size : length nodes ≡ length g.types
  size = length-range_with_len 0 (length g.types)

  node_is : (i : ℕ) → i < length g.types → slice_index_or nodes i 0 ≡ i
  node_is i h = let e = get_or-range_with_len 0 (length g.types) i 0 h in omega (arith, e)

  -- a step of the loop over the nodes
  pub kept_more : (i : ℕ) (types types' : List Ty) (starts starts' : List ℕ) (arcs arcs' : List GraphArc) (ty : Ty) (at : ℕ) → i < length g.types →
      AreKeptRows hang lead g i types starts arcs → types' ≡ types ++ ty ∷ [] → ty.0 ≡ kept_type hang g i → starts' ≡ starts ++ at ∷ [] → at ≡ length arcs →
      arcs' ≡ arcs ++ kept_at hang lead g i → AreKeptRows hang lead g (i + 1) types' starts' arcs'
  kept_more i types types' starts starts' arcs arcs' ty at h r types_is ty_is starts_is at_is arcs_is = record {
    types_are =
        ap (map (λ t. t.0)) types_is ∙ map_push (λ t. t.0) types ty ∙ ap (λ l. l ++ ty.0 ∷ []) r.types_are
        ∙ ap (λ y. map (kept_type hang g) (take i nodes) ++ y ∷ []) (ty_is ∙ ap (kept_type hang g) (sym (node_is i h)))
        ∙ sym (map-append (kept_type hang g) (take i nodes) (slice_index_or nodes i 0 ∷ []))
        ∙ sym (ap (map (kept_type hang g)) (take_more nodes i 0 (let e = size in omega (arith, e, h))));
    starts_are = starts-more (kept_at hang lead g) nodes i at starts starts' arcs r.starts_are r.arcs_are starts_is at_is;
    arcs_are =
        arcs_is ∙ ap (λ l. l ++ kept_at hang lead g i) r.arcs_are ∙ ap (λ k. flat_map (kept_at hang lead g) (take i nodes) ++ kept_at hang lead g k) (sym (node_is i h))
        ∙ sym (flat-more (kept_at hang lead g) nodes i 0 (let e = size in omega (arith, e, h)));
  }

  -- the end of the loop
  pub kept_all : (i at : ℕ) (types : List Ty) (starts starts' : List ℕ) (arcs : List GraphArc) → i ≡ length g.types → length g.types < 2 ^ 32 → IsGraph g →
      AreKeptRows hang lead g i types starts arcs → starts' ≡ starts ++ at ∷ [] → at ≡ length arcs → IsKeptPlan hang lead g types starts' arcs
  kept_all i at types starts starts' arcs e few is r starts_is at_is =
      subst (λ z. IsKeptPlan hang lead g types z arcs) (sym (starts_is ∙ ap (λ z. starts ++ z ∷ []) at_is)) plan
    where
      all : AreKeptRows hang lead g (length g.types) types starts arcs
      all = subst (λ z. AreKeptRows hang lead g z types starts arcs) e r

      types_all : map (λ t. t.0) types ≡ map (kept_type hang g) nodes
      types_all = all.types_are ∙ ap (map (kept_type hang g)) (take_all (length g.types) nodes (let s = size in omega (arith, s)))

      types_size : length types ≡ length g.types
      types_size = sym (length-map types (λ t. t.0)) ∙ ap length types_all ∙ length-map nodes (kept_type hang g) ∙ size

      starts_all : starts ≡ map (starts_of (kept_at hang lead g) nodes) (range_with_len 0 (length nodes))
      starts_all = subst (λ z. starts ≡ map (starts_of (kept_at hang lead g) nodes) (range_with_len 0 z)) (sym size) all.starts_are

      arcs_all : arcs ≡ flat_map (kept_at hang lead g) nodes
      arcs_all = all.arcs_are ∙ ap (flat_map (kept_at hang lead g)) (take_all (length g.types) nodes (let s = size in omega (arith, s)))

      row_all : (n : ℕ) → n < length types → row (starts ++ length arcs ∷ []) arcs n ≡ kept_at hang lead g n
      row_all n h =
          row_is (kept_at hang lead g) nodes 0 starts arcs starts_all arcs_all n (let s = size in omega (arith, h, s, types_size))
          ∙ ap (kept_at hang lead g) (node_is n (omega (arith, h, types_size)))

      targets : (n k : ℕ) → n < length g.types → k < length (kept_at hang lead g n) → slice_index (targets_of (kept_at hang lead g n)) k < length g.types
      targets n k h l =
          let at = filter_index _ (arcs_at g n) k l in
          let there = arc_there (arcs_at g n) at.0 (is.rises n h) at.1 in
          let low = is.numbered.table.arc_in n (slice_index (feats_of (arcs_at g n)) at.0) (slice_index (targets_of (arcs_at g n)) at.0) h there in
          subst (λ z. z < length g.types) (sym at.3) low

      plan : IsKeptPlan hang lead g types (starts ++ length arcs ∷ []) arcs
      plan = record {
        plan = record {
          filled = omega (arith, is.numbered.filled, types_size);
          few = omega (arith, few, types_size);
          rows = rows_are (kept_at hang lead g) nodes 0 starts arcs starts_all arcs_all (length types) (let s = size in omega (arith, s, types_size));
          rises = λ n h. subst Rises (sym (row_all n h)) (rises-filter _ (arcs_at g n) (is.rises n (omega (arith, h, types_size))));
          to_in = λ n k h l.
              let m : k < length (kept_at hang lead g n) = subst (λ z. k < length z) (row_all n h) l in
              let low = targets n k (omega (arith, h, types_size)) m in
              subst (λ z. slice_index (targets_of z) k < length types) (sym (row_all n h)) (omega (arith, low, types_size));
        };
        size_is = types_size;
        types_are = λ n h. ap (λ l. slice_index_or l n 0) types_all ∙ get_or-map-range_with_len (kept_type hang g) 0 (length g.types) n n 0 h (omega arith);
        rows_are = row_all;
      }
