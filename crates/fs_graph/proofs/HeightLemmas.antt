-- The lengths of the longest paths from nodes that a visit is done with.
use Rattle.std.proofs.Common.{ℕ, zero, suc, ◌≡◌, ◌≢◌, ◌≤◌, ◌<◌, ◌+◌, ◌⊎◌, inl, inr, Bool, true, false, List, [], ◌∷◌, ◌++◌, length, slice_index, slice_index_or, set, replicate, refl, sym, ◌∙◌, ap, subst, arith}
use Rattle.std.proofs.lemmas.Bool.{cases_lt}
use Rattle.std.proofs.lemmas.List.{get_or-replicate, get_or_past, length-replicate, get_or-set_same, get_or-set_other, length-set, length_push}
use Rattle.fs_model.specs.Claims.{Path}
use Rattle.fs_model.specs.DepthFirst.{Plan, IsArc, IsPlan, Leads, ends, goes}
use Rattle.fs_model.proofs.StepLemmas.{same_or_other}
use Rattle.fs_graph.specs.declared.graph.GraphArc.{GraphArc}
use Rattle.fs_graph.specs.declared.visit.Frame.{Frame}
use Rattle.fs_graph.specs.Visits.{plan_of}
use Rattle.fs_graph.specs.Inner.Going.{IsVisitable, nodes_of, nexts_of, IsGoing}
use Rattle.fs_graph.specs.Inner.Heights.{IsAbove, AreHeights}
use Rattle.fs_graph.proofs.VisitCode.{last_at}

-- no arc was looked at
pub above_none : (p : Plan) (height : ℕ → ℕ) (n : ℕ) → IsAbove p height n (p.start n) 0
above_none p height n = record { above = λ i a b. absurd (omega arith); reached = inl refl }

-- one arc more
pub above_more : (p : Plan) (height : ℕ → ℕ) (n i h h' b : ℕ) → p.start n ≤ i → IsAbove p height n i h → b ≡ height (p.to i) →
    (h ≤ h') × (b < h') × ((h' ≡ h) ⊎ (h' ≡ b + 1)) → IsAbove p height n (i + 1) h'
above_more p height n i h h' b from old is (more, over, which) = record {
  above = λ j a b. above j a b (cases_lt j i);
  reached = reached which;
}
  where
    above : (j : ℕ) → p.start n ≤ j → j < i + 1 → (j < i) ⊎ (i ≤ j) → height (p.to j) < h'
    above j a c (inl d) = omega (arith, old.above j a d, more)
    above j a c (inr d) = let e : j ≡ i = omega arith in omega (arith, ap (λ k. height (p.to k)) e, over, is)

    kept : h' ≡ h → (h ≡ 0) ⊎ ((j : ℕ) × (p.start n ≤ j) × (j < i) × (h ≡ height (p.to j) + 1)) →
        (h' ≡ 0) ⊎ ((j : ℕ) × (p.start n ≤ j) × (j < i + 1) × (h' ≡ height (p.to j) + 1))
    kept e (inl z) = inl (e ∙ z)
    kept e (inr (j, a, b, z)) = inr (j, a, omega arith, e ∙ z)

    reached : (h' ≡ h) ⊎ (h' ≡ b + 1) → (h' ≡ 0) ⊎ ((j : ℕ) × (p.start n ≤ j) × (j < i + 1) × (h' ≡ height (p.to j) + 1))
    reached (inl e) = kept e old.reached
    reached (inr e) = inr (i, from, omega arith, e ∙ ap (λ y. y + 1) is)

-- no node is done with
pub heights_none : (p : Plan) (closed : List Bool) (heights : List ℕ) → ((n : ℕ) → slice_index_or closed n false ≡ false) → length heights ≡ p.nodes →
    AreHeights p closed heights
heights_none p closed heights none each = record {
  each = each;
  top = λ n h e. absurd (let f : false ≡ true = sym (none n) ∙ e in cc f);
}

-- a visit's beginning
pub heights_begin : (p : Plan) (closed : List Bool) (heights : List ℕ) → closed ≡ replicate p.nodes false → heights ≡ replicate p.nodes 0 → AreHeights p closed heights
heights_begin p closed heights a b =
    heights_none p closed heights (λ n. ap (λ l. slice_index_or l n false) a ∙ none n (cases_lt n p.nodes)) (ap length b ∙ length-replicate p.nodes 0)
  where
    none : (n : ℕ) → (n < p.nodes) ⊎ (p.nodes ≤ n) → slice_index_or (replicate p.nodes false) n false ≡ false
    none n (inl h) = get_or-replicate p.nodes n false false h
    none n (inr h) = get_or_past (replicate p.nodes false) n false (let e = length-replicate p.nodes false in omega arith)

module _ (nodes : ℕ) (starts : List ℕ) (arcs : List GraphArc) (able : IsVisitable nodes starts arcs) (numbers order : List ℕ) (closed : List Bool)
    (frames : List Frame) (x : Frame) (g : IsGoing nodes starts arcs numbers order closed (frames ++ x ∷ [])) (spent : x.next ≡ slice_index starts (x.node + 1)) where
  abbrev p : Plan
  p = plan_of nodes starts arcs

  abbrev all : List Frame
  all = frames ++ x ∷ []

  depth_is : length all ≡ length frames + 1
  depth_is = length_push frames x

  last_in : length frames < length all
  last_in = omega (arith, depth_is)

  node_is : slice_index (nodes_of all) (length frames) ≡ x.node
  node_is = last_at (λ f. f.node) frames x

  next_is : slice_index (nexts_of all) (length frames) ≡ x.next
  next_is = last_at (λ f. f.next) frames x

  node_in : x.node < nodes
  node_in = subst (λ z. z < nodes) node_is (g.going.open_in (length frames) last_in).0

  not_done : slice_index_or closed x.node false ≡ false
  not_done = subst (λ z. slice_index_or closed z false ≡ false) node_is (g.going.open_not (length frames) last_in)

  targets_done : (i : ℕ) → p.start x.node ≤ i → i < p.start (x.node + 1) → slice_index_or closed (p.to i) false ≡ true
  targets_done i a b =
      g.going.passed_last (length frames) i (sym depth_is) (subst (λ z. p.start z ≤ i) (sym node_is) a) (omega (arith, next_is, spent, b))

  -- a node is done with once its arcs were passed
  pub heights_close : (heights : List ℕ) (h : ℕ) → AreHeights (plan_of nodes starts arcs) closed heights →
      IsAbove (plan_of nodes starts arcs) (slice_index heights) x.node (slice_index starts (x.node + 1)) h →
      AreHeights (plan_of nodes starts arcs) (set closed x.node true) (set heights x.node h)
  heights_close heights h old above = record {
    each = length-set heights x.node h ∙ old.each;
    top = λ n n_in e. go n n_in e (same_or_other n x.node);
  }
    where
      other : (m : ℕ) → slice_index_or closed m false ≡ true → slice_index (set heights x.node h) m ≡ slice_index heights m
      other m e =
          get_or-set_other heights x.node m h 0
          (λ q. let f : false ≡ true = sym not_done ∙ ap (λ z. slice_index_or closed z false) (sym q) ∙ e in cc f)

      here : slice_index (set heights x.node h) x.node ≡ h
      here = get_or-set_same heights x.node h 0 (omega (arith, node_in, old.each))

      at_x : IsAbove p (slice_index (set heights x.node h)) x.node (p.start (x.node + 1)) (slice_index (set heights x.node h) x.node)
      at_x = record {
        above = λ i a b. omega (arith, other (p.to i) (targets_done i a b), here, above.above i a b);
        reached = reached above.reached;
      }
        where
          reached : (h ≡ 0) ⊎ ((i : ℕ) × (p.start x.node ≤ i) × (i < p.start (x.node + 1)) × (h ≡ slice_index heights (p.to i) + 1)) →
              (slice_index (set heights x.node h) x.node ≡ 0) ⊎
              ((i : ℕ) × (p.start x.node ≤ i) × (i < p.start (x.node + 1)) × (slice_index (set heights x.node h) x.node ≡ slice_index (set heights x.node h) (p.to i) + 1))
          reached (inl z) = inl (here ∙ z)
          reached (inr (i, a, b, z)) = inr (i, a, b, here ∙ z ∙ ap (λ y. y + 1) (sym (other (p.to i) (targets_done i a b))))

      go : (n : ℕ) → n < nodes → slice_index_or (set closed x.node true) n false ≡ true → (n ≡ x.node) ⊎ (n ≢ x.node) →
          IsAbove p (slice_index (set heights x.node h)) n (p.start (n + 1)) (slice_index (set heights x.node h) n)
      go n n_in e (inl q) =
          subst (λ z. IsAbove p (slice_index (set heights x.node h)) z (p.start (z + 1)) (slice_index (set heights x.node h) z)) (sym q) at_x
      go n n_in e (inr q) = record {
        above = λ i a b. omega (arith, other (p.to i) (g.going.done_arcs n i n_in was (a, b)).0, other n was, (old.top n n_in was).above i a b);
        reached = reached (old.top n n_in was).reached;
      }
        where
          was : slice_index_or closed n false ≡ true
          was = sym (get_or-set_other closed x.node n true false q) ∙ e

          reached : (slice_index heights n ≡ 0) ⊎ ((i : ℕ) × (p.start n ≤ i) × (i < p.start (n + 1)) × (slice_index heights n ≡ slice_index heights (p.to i) + 1)) →
              (slice_index (set heights x.node h) n ≡ 0) ⊎
              ((i : ℕ) × (p.start n ≤ i) × (i < p.start (n + 1)) × (slice_index (set heights x.node h) n ≡ slice_index (set heights x.node h) (p.to i) + 1))
          reached (inl z) = inl (other n was ∙ z)
          reached (inr (i, a, b, z)) =
              inr (i, a, b, other n was ∙ z ∙ ap (λ y. y + 1) (sym (other (p.to i) (g.going.done_arcs n i n_in was (a, b)).0)))

-- paths from nodes that are done with, where their arcs lead to such nodes
module _ (p : Plan) (ok : IsPlan p) (closed : List Bool) (heights : List ℕ) (all : AreHeights p closed heights)
    (down : (n i : ℕ) → n < p.nodes → slice_index_or closed n false ≡ true → IsArc p n i → slice_index_or closed (p.to i) false ≡ true) where
  pub paths_within : (n k : ℕ) (q : Path) → n < p.nodes → slice_index_or closed n false ≡ true → Leads p n q k → length q ≤ slice_index heights n
  paths_within n _ _ h c (ends _) = omega arith
  paths_within n k _ h c (goes _ i f _ q arc is x) =
      let rest = paths_within (p.to i) k q (ok.to_in n i h arc) (down n i h c arc) x in
      omega (arith, rest, (all.top n h c).above i arc.0 arc.1)

  pub path_reached : (h n : ℕ) → n < p.nodes → slice_index_or closed n false ≡ true → slice_index heights n ≡ h →
      (q : Path) × (k : ℕ) × Leads p n q k × (length q ≡ h)
  path_reached zero n n_in c e = ([], n, ends n, refl)
  path_reached (suc h) n n_in c e = go (all.top n n_in c).reached (path_reached h)
    where
      go : (slice_index heights n ≡ 0) ⊎ ((i : ℕ) × (p.start n ≤ i) × (i < p.start (n + 1)) × (slice_index heights n ≡ slice_index heights (p.to i) + 1)) →
          ((m : ℕ) → m < p.nodes → slice_index_or closed m false ≡ true → slice_index heights m ≡ h → (q : Path) × (k : ℕ) × Leads p m q k × (length q ≡ h)) →
          (q : Path) × (k : ℕ) × Leads p n q k × (length q ≡ suc h)
      go (inl z) rest = absurd (omega (arith, z, e))
      go (inr (i, a, b, z)) rest =
          let arc : IsArc p n i = (a, b) in
          let r = rest (p.to i) (ok.to_in n i n_in arc) (down n i n_in c arc) (omega (arith, z, e)) in
          (p.feat i ∷ r.0, r.1, goes n i (p.feat i) r.1 r.0 arc refl r.2, ap suc r.3)
