-- The graph of the nodes in the order of a visit.
use Rattle.std.proofs.Common.{ℕ, ◌≡◌, ◌≢◌, ◌<◌, ◌+◌, ◌==◌, ◌⊎◌, inl, inr, Bool, true, false, cond, Some, option_map, List, [], ◌∷◌, ◌++◌, length, map, take, slice_index, slice_index_or, refl, sym, ◌∙◌, ap, subst, arith, append_assoc}
use Rattle.std.specs.List.{find, flat_map}
use Rattle.std.proofs.lemmas.List.{get_or-map, length-map, map_push, map_more, take_more, take_all}
use Rattle.std.proofs.lemmas.List.FromFn.{length-map-range_with_len}
use Rattle.fs_model.specs.Claims.{Path}
use Rattle.fs_model.specs.Sources.{IsSameStructure}
use Rattle.fs_model.specs.Table.{walk}
use Rattle.fs_model.specs.Numbering.{IsNumbered, HasHeights}
use Rattle.fs_model.specs.DepthFirst.{Plan, Leads, IsSettled, missing, plain}
use Rattle.fs_model.proofs.RenumberLemmas.{renumbered_same, renumbered_numbered, renumbered_falls, walk_leads, leads_walk}
use Rattle.fs_model.proofs.VisitLemmas.{bool_cases, Leads-in, settles, settled_acyclic}
use Rattle.type_hierarchy.specs.declared.types.Ty.{Ty}
use Rattle.fs_graph.specs.declared.graph.GraphArc.{GraphArc}
use Rattle.fs_graph.specs.declared.clash.Clash.{Clash}
use Rattle.fs_graph.specs.declared.clash.Clash.TheVariants.{Cycle, NoMemory}
use Rattle.fs_graph.specs.declared.visit.Frame.{Frame}
use Rattle.fs_graph.specs.GraphMap.{GraphMap, arc_to, arcs_at, type_at, table_of, reader_of, Rises}
use Rattle.fs_graph.specs.Inside.{row, graph_map, AreRows, IsGraphInside}
use Rattle.fs_graph.specs.Orders.{ArePlan, IsReached, ReachesItself, IsClash, IsLongest, IsOrderOf}
use Rattle.fs_graph.specs.Visits.{feats_of, targets_of, plan_of}
use Rattle.fs_graph.specs.Inner.Going.{IsVisitable, view_of, IsGoing, IsClashIn}
use Rattle.fs_graph.specs.Inner.Renumbering.{renumber, new_row, new_type, new_start, AreRenumbered}
use Rattle.fs_graph.proofs.FlatLemmas.{flat-more, starts-more, row_is, rows_are}
use Rattle.fs_graph.specs.Inner.Heights.{AreHeights}
use Rattle.fs_graph.proofs.HeightLemmas.{paths_within, path_reached}
use Rattle.fs_graph.proofs.RowLemmas.{row_at, visitable, are_arcs}

-- the same features, and numbers for nodes
feats-renumber : (numbers : List ℕ) (xs : List GraphArc) → feats_of (map (renumber numbers) xs) ≡ feats_of xs
feats-renumber numbers [] = refl
feats-renumber numbers (x ∷ xs) = ap (λ l. x.feat.0 ∷ l) (feats-renumber numbers xs)

arc_to-renumber : (numbers : List ℕ) (xs : List GraphArc) (f : ℕ) → arc_to (map (renumber numbers) xs) f ≡ option_map (slice_index numbers) (arc_to xs f)
arc_to-renumber numbers [] f = refl
arc_to-renumber numbers (x ∷ xs) f = go (x.feat.0 == f) (arc_to-renumber numbers xs f)
  where
    go : (b : Bool) → arc_to (map (renumber numbers) xs) f ≡ option_map (slice_index numbers) (arc_to xs f) →
        option_map (λ a. a.to.0) (cond b (Some (renumber numbers x)) (find (λ a. a.feat.0 == f) (map (renumber numbers) xs)))
        ≡ option_map (slice_index numbers) (option_map (λ a. a.to.0) (cond b (Some x) (find (λ a. a.feat.0 == f) xs)))
    go true rest = refl
    go false rest = rest

-- one more arc in a row
pub push_more : (numbers : List ℕ) (row before now now' : List GraphArc) (i : ℕ) (d : GraphArc) → i < length row → now ≡ before ++ map (renumber numbers) (take i row) →
    now' ≡ now ++ renumber numbers (slice_index_or row i d) ∷ [] → now' ≡ before ++ map (renumber numbers) (take (i + 1) row)
push_more numbers row before now now' i d h r e =
    e ∙ ap (λ l. l ++ renumber numbers (slice_index_or row i d) ∷ []) r
    ∙ append_assoc before (map (renumber numbers) (take i row)) (renumber numbers (slice_index_or row i d) ∷ [])
    ∙ ap (λ l. before ++ l) (sym (map_more (renumber numbers) row i d h))

module _ (types : List Ty) (starts : List ℕ) (arcs : List GraphArc) (plan : ArePlan types starts arcs) (numbers order : List ℕ)
    (s : IsSettled (plan_of (length types) starts arcs) (slice_index numbers) (slice_index order) (length order)) where
  abbrev p : Plan
  p = plan_of (length types) starts arcs

  abbrev old : GraphMap
  old = graph_map types starts arcs

  abbrev rows : ℕ → List GraphArc
  rows = new_row starts arcs numbers

  abbrev start_at : ℕ → ℕ
  start_at = new_start starts arcs numbers order

  -- a step of the loop over the order
  pub renumbers_more : (i : ℕ) (new_types new_types' : List Ty) (new_starts new_starts' : List ℕ) (new_arcs new_arcs' : List GraphArc) (at : ℕ) → i < length order →
      AreRenumbered types starts arcs numbers order i new_types new_starts new_arcs → new_types' ≡ new_types ++ new_type types (slice_index order i) ∷ [] →
      new_starts' ≡ new_starts ++ at ∷ [] → at ≡ length new_arcs → new_arcs' ≡ new_arcs ++ rows (slice_index order i) →
      AreRenumbered types starts arcs numbers order (i + 1) new_types' new_starts' new_arcs'
  renumbers_more i new_types new_types' new_starts new_starts' new_arcs new_arcs' at h r types_is starts_is at_is arcs_is = record {
    types_are =
        types_is ∙ ap (λ l. l ++ new_type types (slice_index order i) ∷ []) r.types_are
        ∙ sym (ap (map (new_type types)) (take_more order i 0 h) ∙ map_push (new_type types) (take i order) (slice_index order i));
    starts_are = starts-more rows order i at new_starts new_starts' new_arcs r.starts_are r.arcs_are starts_is at_is;
    arcs_are = arcs_is ∙ ap (λ l. l ++ rows (slice_index order i)) r.arcs_are ∙ sym (flat-more rows order i 0 h);
  }

  -- a row leads to nodes
  pub row_targets : (m i k : ℕ) → m ≡ length types → i < length order → k < length (row starts arcs (slice_index order i)) →
      slice_index (targets_of (row starts arcs (slice_index order i))) k < m
  row_targets m i k e h l =
      let at = plan.to_in (slice_index order i) k (s.ordered i h).0 l in
      omega arith

  module _ (new_types : List Ty) (new_starts : List ℕ) (new_arcs : List GraphArc) (r : AreRenumbered types starts arcs numbers order (length order) new_types new_starts new_arcs) where
    abbrev new_ends : List ℕ
    new_ends = new_starts ++ length new_arcs ∷ []

    abbrev new : GraphMap
    new = graph_map new_types new_ends new_arcs

    types_all : new_types ≡ map (new_type types) order
    types_all = r.types_are ∙ ap (map (new_type types)) (take_all (length order) order (omega arith))

    arcs_all : new_arcs ≡ flat_map rows order
    arcs_all = r.arcs_are ∙ ap (flat_map rows) (take_all (length order) order (omega arith))

    types_size : length new_types ≡ length order
    types_size = ap length types_all ∙ length-map order (new_type types)

    pub new_rows : AreRows (length new_types) (new_starts ++ length new_arcs ∷ []) (length new_arcs)
    new_rows = rows_are rows order 0 new_starts new_arcs r.starts_are arcs_all (length new_types) types_size

    new_arcs_at : (k : ℕ) → k < length order → arcs_at new k ≡ rows (slice_index order k)
    new_arcs_at k h = row_at new_types new_ends new_arcs k (let d = types_size in omega arith) ∙ row_is rows order 0 new_starts new_arcs r.starts_are arcs_all k h

    arc_is : (k f : ℕ) → k < length order → (table_of new).arc k f ≡ option_map (slice_index numbers) ((table_of old).arc (slice_index order k) f)
    arc_is k f h =
        ap (λ l. arc_to l f) (new_arcs_at k h) ∙ arc_to-renumber numbers (row starts arcs (slice_index order k)) f
        ∙ ap (λ l. option_map (slice_index numbers) (arc_to l f)) (sym (row_at types starts arcs (slice_index order k) (s.ordered k h).0))

    type_is : (k : ℕ) → k < length order → type_at new k ≡ type_at old (slice_index order k)
    type_is k h =
        ap (λ l. slice_index_or (map (λ y. y.0) l) k 0) types_all
        ∙ get_or-map (λ y. y.0) (map (new_type types) order) k (record { 0 = 0 }) 0 (let e = length-map order (new_type types) in omega arith)
        ∙ ap (λ y. y.0) (get_or-map (new_type types) order k 0 (record { 0 = 0 }) h)
        ∙ sym (get_or-map (λ y. y.0) types (slice_index order k) (record { 0 = 0 }) 0 (s.ordered k h).0)

    -- the tables as those of the theory
    sizes : length new.types ≡ length order
    sizes = length-map new_types (λ y. y.0) ∙ types_size

    old_size : length old.types ≡ length types
    old_size = length-map types (λ y. y.0)

    pub new_inside : IsGraphInside new_types new_ends new_arcs
    new_inside = record {
      few = let e = types_size in let f = s.few in omega arith;
      rows = new_rows;
      graph = record {
        even = length-map-range_with_len (row new_ends new_arcs) 0 (length new_types) ∙ sym (length-map new_types (λ y. y.0));
        rises = λ k h. let l : k < length order = (let e = sizes in omega arith) in subst Rises (sym (new_arcs_at k l)) (rising k l);
        least = s.least;
        numbered = subst (λ z. IsNumbered (plain z (table_of new).arc (type_at new)) s.least) (sym sizes)
            (renumbered_numbered p (visitable types starts arcs plan).plan (slice_index numbers) (slice_index order) (length order) s (table_of old).arc (type_at old)
            (are_arcs types starts arcs plan) (table_of new).arc (type_at new) arc_is type_is);
        height = λ k. s.height (slice_index order k);
        falls = subst (λ z. HasHeights (plain z (table_of new).arc (type_at new)) (λ k. s.height (slice_index order k))) (sym sizes)
            (renumbered_falls p (visitable types starts arcs plan).plan (slice_index numbers) (slice_index order) (length order) s (table_of old).arc (type_at old)
            (are_arcs types starts arcs plan) (table_of new).arc (type_at new) arc_is type_is);
      };
    }
      where
        rising : (k : ℕ) → k < length order → Rises (rows (slice_index order k))
        rising k h i j l m =
            let same = feats-renumber numbers (row starts arcs (slice_index order k)) in
            let size = length-map (row starts arcs (slice_index order k)) (renumber numbers) in
            subst (λ z. slice_index z i < slice_index z j) (sym same) (plan.rises (slice_index order k) (s.ordered k h).0 i j l (omega arith))

    pub new_same : IsSameStructure (reader_of old) (reader_of new)
    new_same =
        renumbered_same p (visitable types starts arcs plan).plan (slice_index numbers) (slice_index order) (length order) s (table_of old).arc (type_at old)
        (are_arcs types starts arcs plan) (table_of new).arc (type_at new) arc_is type_is

  -- the end of the loop
  pub renumbers_all : (i at : ℕ) (new_types : List Ty) (new_starts starts' : List ℕ) (new_arcs : List GraphArc) → i ≡ length order →
      AreRenumbered types starts arcs numbers order i new_types new_starts new_arcs → starts' ≡ new_starts ++ at ∷ [] → at ≡ length new_arcs →
      IsGraphInside new_types starts' new_arcs × IsSameStructure (reader_of old) (reader_of (graph_map new_types starts' new_arcs))
  renumbers_all i at new_types new_starts starts' new_arcs e r starts_is at_is =
      let all = subst (λ z. AreRenumbered types starts arcs numbers order z new_types new_starts new_arcs) e r in
      let is : starts' ≡ new_starts ++ length new_arcs ∷ [] = starts_is ∙ ap (λ z. new_starts ++ z ∷ []) at_is in
      subst (λ z. IsGraphInside new_types z new_arcs × IsSameStructure (reader_of old) (reader_of (graph_map new_types z new_arcs))) (sym is)
      (new_inside new_types new_starts new_arcs all, new_same new_types new_starts new_arcs all)

-- the loop of the visit
module _ (types : List Ty) (starts : List ℕ) (arcs : List GraphArc) (plan : ArePlan types starts arcs) where
  abbrev whole : Plan
  whole = plan_of (length types) starts arcs

  abbrev drawn : GraphMap
  drawn = graph_map types starts arcs

  pub able_here : (n : ℕ) → n ≡ length types → IsVisitable n starts arcs
  able_here n e = subst (λ z. IsVisitable z starts arcs) (sym e) (visitable types starts arcs plan)

  pub going_pops : (numbers order : List ℕ) (closed : List Bool) (frames rest : List Frame) (x : Frame) →
      IsGoing (length types) starts arcs numbers order closed frames → frames ≡ rest ++ x ∷ [] → IsGoing (length numbers) starts arcs numbers order closed (rest ++ x ∷ [])
  going_pops numbers order closed frames rest x g e =
      subst (λ z. IsGoing (length numbers) starts arcs numbers order closed z) e (subst (λ z. IsGoing z starts arcs numbers order closed frames) (sym g.numbers_all) g)

  pub going_back : (n : ℕ) (numbers order : List ℕ) (closed : List Bool) (frames : List Frame) → n ≡ length types →
      IsGoing n starts arcs numbers order closed frames → IsGoing (length types) starts arcs numbers order closed frames
  going_back n numbers order closed frames e g = subst (λ z. IsGoing z starts arcs numbers order closed frames) e g

  module _ (numbers order : List ℕ) (closed : List Bool) (frames : List Frame) (over : frames ≡ []) (g : IsGoing (length types) starts arcs numbers order closed frames) where
    pub settled_is : IsSettled whole (slice_index numbers) (slice_index order) (length order)
    settled_is = settles whole (visitable types starts arcs plan).plan (view_of numbers order closed frames) g.going (ap length over)

    drawn_size : length drawn.types ≡ length types
    drawn_size = length-map types (λ y. y.0)

    to_leads : (n k : ℕ) (q : Path) → n < length types → walk (table_of drawn) n q ≡ Some k → Leads whole n q k
    to_leads n k q h e = walk_leads whole (visitable types starts arcs plan).plan (table_of drawn).arc (type_at drawn) (are_arcs types starts arcs plan) n k q h e

    acyclic : (n : ℕ) → IsReached drawn n → ReachesItself drawn n → ⊥
    acyclic n a b =
        let first = to_leads 0 n a.0 plan.filled a.1 in
        let n_in = Leads-in whole (visitable types starts arcs plan).plan 0 n a.0 plan.filled first in
        settled_acyclic whole (visitable types starts arcs plan).plan (view_of numbers order closed frames) g.going (ap length over) n a.0 b.0 first b.1
        (to_leads n n b.0 n_in b.2)

    -- the root is done with
    root_done : slice_index_or closed 0 false ≡ true
    root_done = go (bool_cases (slice_index_or closed 0 false))
      where
        met : slice_index numbers 0 ≢ missing
        met e =
            let root = g.going.root in
            let zero_is = ap (slice_index numbers) (sym root.1) ∙ (g.going.ordered 0 root.0).1 in
            absurd (omega (arith, e, zero_is))

        go : (slice_index_or closed 0 false ≡ true) ⊎ (slice_index_or closed 0 false ≡ false) → slice_index_or closed 0 false ≡ true
        go (inl e) = e
        go (inr e) = let k = g.going.open_all 0 plan.filled met e in absurd (omega (arith, k.1, ap length over))

    module _ (heights : List ℕ) (tall : AreHeights (plan_of (length types) starts arcs) closed heights) where
      longest_is : IsLongest (graph_map types starts arcs) (slice_index heights 0)
      longest_is = record {
        bounds = λ q n e.
            paths_within whole (visitable types starts arcs plan).plan closed heights tall (λ n i h c arc. (g.going.done_arcs n i h c arc).0) 0 n q plan.filled root_done
            (to_leads 0 n q plan.filled e);
        reached =
            let r = path_reached whole (visitable types starts arcs plan).plan closed heights tall (λ n i h c arc. (g.going.done_arcs n i h c arc).0)
            (slice_index heights 0) 0 plan.filled root_done refl in
            (r.0, r.1, leads_walk whole (visitable types starts arcs plan).plan (table_of drawn).arc (type_at drawn) (are_arcs types starts arcs plan) 0 r.1 r.0 plan.filled r.2, r.3);
      }

      pub order_is : (height : ℕ) → height ≡ slice_index heights 0 → IsOrderOf types starts arcs numbers order height
      order_is height is = record {
        numbers_all = g.numbers_all;
        settled = settled_is;
        acyclic = acyclic;
        longest = subst (IsLongest (graph_map types starts arcs)) (sym is) longest_is;
      }

  -- what a clash shows
  clash_is : (e : Clash) → IsClashIn whole e → IsClash drawn e
  clash_is (Cycle n) c =
      let n_in = Leads-in whole (visitable types starts arcs plan).plan 0 n.0 c.0.0 plan.filled c.0.1 in
      ((c.0.0, along 0 n.0 c.0.0 plan.filled c.0.1), (c.1.0, c.1.1, along n.0 n.0 c.1.0 n_in c.1.2))
    where
      along : (n k : ℕ) (q : Path) → n < length types → Leads whole n q k → walk (table_of drawn) n q ≡ Some k
      along = leads_walk whole (visitable types starts arcs plan).plan (table_of drawn).arc (type_at drawn) (are_arcs types starts arcs plan)
  clash_is NoMemory c = tt

  pub clash_back : (n : ℕ) (e : Clash) → n ≡ length types → IsClashIn (plan_of n starts arcs) e → IsClash drawn e
  clash_back n e same c = clash_is e (subst (λ z. IsClashIn (plan_of z starts arcs) e) same c)
