-- The graph of a constraint that enters at a node: it says nothing that the closure doesn't have there, and all that types above say.
use Rattle.std.proofs.Common.{ℕ, ◌≡◌, ◌≤◌, ◌<◌, ◌+◌, ◌-◌, ◌⊎◌, inl, inr, true, Option, Some, None, List, [], ◌∷◌, ◌++◌, length, append-nil, append_assoc, refl, sym, ◌∙◌, ap, subst, arith}
use Rattle.std.proofs.lemmas.Bool.{cases_lt}
use Rattle.std.specs.Option.{option_map}
use Rattle.fs_model.specs.Claims.{Path, Claim, exists_at, same, below, at, System, Has, here, there}
use Rattle.fs_model.specs.Closure.{Closure, below_exists, same_refl, introduced, raised, constrained}
use Rattle.fs_model.specs.Sources.{Source, Told, told_claim, told_part, IsGraphOf}
use Rattle.fs_model.specs.Table.{Table, IsTable, NodeClaim, is_there, is_same, is_under, from, Seen, Stated, by_node, by_arc, by_merge, by_type, by_work, Follows, stated, there_left, same_back, same_on, under_same, under_higher, walk, read}
use Rattle.fs_model.specs.Steps.{InTable, Closes}
use Rattle.fs_model.specs.Numbering.{IsBefore}
use Rattle.fs_model.proofs.StepLemmas.{Follows-grows, read-agree}
use Rattle.fs_model.proofs.TableLemmas.{walk-append, walk-step}
use Rattle.fs_model.proofs.PartLemmas.{walk_follows}
use Rattle.fs_model.proofs.PathLemmas.{not_before_nil}
use Rattle.fs_graph.specs.GraphMap.{GraphMap, IsGraph, table_of, type_at, arcs_at, arc_to, reader_of}
use Rattle.fs_closing.specs.NodeSteps.{EntersTable}
use Rattle.fs_closing.specs.Constraints.{type_source}
use Rattle.fs_closing.proofs.ReadLemmas.{closure_moves}

-- a path for old nodes and one for new ones
abbrev pick : (k size : ℕ) → (k < size) ⊎ (size ≤ k) → Path → Path → Path
pick k size (inl _) a b = a
pick k size (inr _) a b = b

pick_old : (k size : ℕ) (d : (k < size) ⊎ (size ≤ k)) (a b : Path) → k < size → pick k size d a b ≡ a
pick_old k size (inl _) a b h = refl
pick_old k size (inr x) a b h = absurd (omega arith)

pick_new : (k size : ℕ) (d : (k < size) ⊎ (size ≤ k)) (a b : Path) → size ≤ k → pick k size d a b ≡ b
pick_new k size (inl x) a b h = absurd (omega arith)
pick_new k size (inr _) a b h = refl

abbrev pub extended : (ℕ → Path) → ℕ → Path → (ℕ → Path) → ℕ → Path
extended w size place least k = pick k size (cases_lt k size) (w k) (place ++ least (k - size))

-- old nodes keep their paths, and new ones have those of the graph, from the place on
pub grafted_old : (w : ℕ → Path) (size : ℕ) (place : Path) (least : ℕ → Path) (k : ℕ) → k < size → extended w size place least k ≡ w k
grafted_old w size place least k h = pick_old k size (cases_lt k size) (w k) (place ++ least (k - size)) h

pub grafted_new : (w : ℕ → Path) (size : ℕ) (place : Path) (least : ℕ → Path) (k : ℕ) → extended w size place least (size + k) ≡ place ++ least k
grafted_new w size place least k =
    pick_new (size + k) size (cases_lt (size + k) size) (w (size + k)) (place ++ least (size + k - size)) (omega arith)
    ∙ ap (λ i. place ++ least i) (let e : size + k - size ≡ k = omega arith in e)

-- WHAT A CONSTRAINT'S GRAPH HAS

module _ (s : System) (g : GraphMap) (graph : IsGraph g) (v : ℕ) (is : IsGraphOf s (Told (type_source v)) (reader_of g)) where
  leads : (k : ℕ) → k < length g.types → walk (table_of g) 0 (graph.least k) ≡ Some k
  leads k h = (graph.numbered.is_least k h).leads

  further : (k : ℕ) (q : Path) (n : ℕ) → k < length g.types → walk (table_of g) 0 (graph.least k ++ q) ≡ Some n → walk (table_of g) k q ≡ Some n
  further k q n h e = sym (walk-append (table_of g) graph.numbered.table 0 k (graph.least k) q (leads k h)) ∙ e

  pub con_exists : (k : ℕ) → k < length g.types → Closure s (Told (type_source v)) (exists_at (graph.least k))
  con_exists k h = (is.paths (graph.least k)).1 (k, leads k h)

  pub con_typed : (k : ℕ) → k < length g.types → Closure s (Told (type_source v)) (below (graph.least k) (type_at g k))
  con_typed k h = is.types_there (graph.least k) k (leads k h)

  one_on : (k f m : ℕ) → k < length g.types → arc_to (arcs_at g k) f ≡ Some m → walk (table_of g) 0 (graph.least k ++ f ∷ []) ≡ Some m
  one_on k f m h e = walk-append (table_of g) graph.numbered.table 0 k (graph.least k) (f ∷ []) (leads k h) ∙ walk-step (table_of g) k m f [] e

  pub con_arc : (k f m : ℕ) → k < length g.types → arc_to (arcs_at g k) f ≡ Some m →
      Closure s (Told (type_source v)) (same (graph.least k ++ f ∷ []) (graph.least m))
  con_arc k f m h e =
      (is.equalities (graph.least k ++ f ∷ []) (graph.least m)).1 (m, one_on k f m h e, leads m (graph.numbered.table.arc_in k f m h e))

  -- its types are below what introduces features
  pub con_introduced : (k f m : ℕ) → k < length g.types → arc_to (arcs_at g k) f ≡ Some m → s.is_below (type_at g k) (s.introducer f) ≡ true
  con_introduced k f m h e =
      is.types_above (graph.least k) k (s.introducer f) (leads k h)
      (introduced (graph.least k) f ((is.paths (graph.least k ++ f ∷ [])).1 (m, one_on k f m h e)))

  seen_from : (k : ℕ) → k < length g.types → (c : Claim) → Closure s (Told (type_source v)) (at (graph.least k) c) → Seen s (table_of g) (from k c)
  seen_from k h (exists_at q) x = let e = (is.paths (graph.least k ++ q)).0 x in (e.0, further k q e.0 h e.1)
  seen_from k h (same q r) x =
      let e = (is.equalities (graph.least k ++ q) (graph.least k ++ r)).0 x in (e.0, further k q e.0 h e.1, further k r e.0 h e.2)
  seen_from k h (below q u) x =
      let e = (is.paths (graph.least k ++ q)).0 (below_exists (graph.least k ++ q) u x) in
      (e.0, further k q e.0 h e.1, is.types_above (graph.least k ++ q) e.0 u e.1 x)

  -- and it has the facts of all types at or above its types
  pub con_constrained : (k u : ℕ) (c : Claim) → k < length g.types → s.is_below (type_at g k) u ≡ true → Has c (s.facts_of u) → Seen s (table_of g) (from k c)
  con_constrained k u c h b i =
      seen_from k h c (constrained (graph.least k) u c (raised (graph.least k) (type_at g k) u (con_typed k h) b) i)

  pub con_root : graph.least 0 ≡ []
  con_root = go ((graph.numbered.is_least 0 graph.numbered.filled).least [] refl)
    where
      go : (graph.least 0 ≡ []) ⊎ IsBefore (graph.least 0) [] → graph.least 0 ≡ []
      go (inl e) = e
      go (inr h) = absurd (not_before_nil (graph.least 0) h)

  -- a path to a node that isn't the root has a feature
  pub con_deeper : (k : ℕ) → 0 < k → k < length g.types → 1 ≤ length (graph.least k)
  con_deeper k pos h = go (graph.least k) (leads k h)
    where
      go : (p : Path) → walk (table_of g) 0 p ≡ Some k → 1 ≤ length p
      go [] e = absurd (let d : 0 ≡ k = cc in omega (arith, d))
      go (f ∷ p) e = omega arith

-- IT ENTERS AT A NODE

module _ (s : System) (source : Source) (g : GraphMap) (graph : IsGraph g) (v : ℕ) (is : IsGraphOf s (Told (type_source v)) (reader_of g))
    (t t' : Table) (enters : EntersTable g t t') (full : List NodeClaim) (w : ℕ → Path) (old : Closes s (Told source) t full w)
    (n : ℕ) (n_in : n < t.size) (under : Closure s (Told source) (below (w n) v)) where
  moved : (c : Claim) → Closure s (Told (type_source v)) c → Closure s (Told source) (at (w n) c)
  moved c x = closure_moves s (Told (type_source v)) (Told source) (w n) root c x
    where
      root : (c : Claim) → Told (type_source v) c → Closure s (Told source) (at (w n) c)
      root _ (told_claim c h) = one c h
        where
          one : (c : Claim) → Has c (below [] v ∷ []) → Closure s (Told source) (at (w n) c)
          one _ here = subst (λ p. Closure s (Told source) (below p v)) (sym (append-nil (w n))) under
          one c (there h) = elim h [ ]
      root _ (told_part p c h i) = elim h [ ]

  agrees : (k : ℕ) → k < t.size → extended w t.size (w n) graph.least k ≡ w k
  agrees k h = grafted_old w t.size (w n) graph.least k h

  at_new : (k : ℕ) → extended w t.size (w n) graph.least (t.size + k) ≡ w n ++ graph.least k
  at_new k = grafted_new w t.size (w n) graph.least k

  root_in : 0 < length g.types
  root_in = graph.numbered.filled

  node_exists : (k : ℕ) → k < length g.types → Closure s (Told source) (exists_at (w n ++ graph.least k))
  node_exists k h = moved (exists_at (graph.least k)) (con_exists s g graph v is k h)

  node_typed : (k : ℕ) → k < length g.types → Closure s (Told source) (below (w n ++ graph.least k) (type_at g k))
  node_typed k h = moved (below (graph.least k) (type_at g k)) (con_typed s g graph v is k h)

  node_arc : (k f m : ℕ) → k < length g.types → arc_to (arcs_at g k) f ≡ Some m →
      Closure s (Told source) (same ((w n ++ graph.least k) ++ f ∷ []) (w n ++ graph.least m))
  node_arc k f m h e =
      subst (λ p. Closure s (Told source) (same p (w n ++ graph.least m))) (sym (append_assoc (w n) (graph.least k) (f ∷ [])))
      (moved (same (graph.least k ++ f ∷ []) (graph.least m)) (con_arc s g graph v is k f m h e))

  wider : (k : ℕ) → k < t.size → k < t'.size
  wider k h = omega (arith, enters.size_is)

  old_or_new : (k : ℕ) → k < t'.size → (k < t.size) ⊎ ((j : ℕ) × (j < length g.types) × (k ≡ t.size + j))
  old_or_new k h = go (cases_lt k t.size)
    where
      go : (k < t.size) ⊎ (t.size ≤ k) → (k < t.size) ⊎ ((j : ℕ) × (j < length g.types) × (k ≡ t.size + j))
      go (inl a) = inl a
      go (inr a) = inr (k - t.size, omega (arith, enters.size_is), omega arith)

  -- an arc of a new node
  new_arc : (k f m : ℕ) → k < length g.types → t'.arc (t.size + k) f ≡ Some m → (j : ℕ) × (arc_to (arcs_at g k) f ≡ Some j) × (m ≡ t.size + j)
  new_arc k f m h e = go (arc_to (arcs_at g k) f) refl
    where
      go : (x : Option ℕ) → arc_to (arcs_at g k) f ≡ x → (j : ℕ) × (arc_to (arcs_at g k) f ≡ Some j) × (m ≡ t.size + j)
      go None is' = absurd (let d : Some m ≡ None = sym e ∙ enters.arc_new k f h ∙ ap (option_map (λ i. t.size + i)) is' in cc)
      go (Some j) is' =
          let d : Some m ≡ Some (t.size + j) = sym e ∙ enters.arc_new k f h ∙ ap (option_map (λ i. t.size + i)) is' in
          (j, is', (let q : m ≡ t.size + j = cc in q))

  live_new : (j : ℕ) → t'.live (t.size + j) ≡ t.size + j
  live_new j = enters.live_new (t.size + j) (omega arith)

  table' : IsTable t'
  table' = record {
    live_in = λ k h. live_in k (old_or_new k h);
    live_twice = λ k. live_twice k (cases_lt k t.size);
    arc_in = λ k f m h e. arc_in k f m e (old_or_new k h);
  }
    where
      live_in : (k : ℕ) → (k < t.size) ⊎ ((j : ℕ) × (j < length g.types) × (k ≡ t.size + j)) → t'.live k < t'.size
      live_in k (inl a) = subst (λ x. x < t'.size) (sym (enters.live_old k a)) (wider (t.live k) (old.table.live_in k a))
      live_in k (inr (j, a, e)) =
          let d : t'.live k ≡ t.size + j = ap t'.live e ∙ live_new j in
          omega (arith, d, enters.size_is)

      live_twice : (k : ℕ) → (k < t.size) ⊎ (t.size ≤ k) → t'.live (t'.live k) ≡ t'.live k
      live_twice k (inl a) =
          let e = enters.live_old k a in
          ap t'.live e ∙ enters.live_old (t.live k) (old.table.live_in k a) ∙ old.table.live_twice k ∙ sym e
      live_twice k (inr a) = ap t'.live (enters.live_new k a)

      arc_in : (k f m : ℕ) → t'.arc k f ≡ Some m → (k < t.size) ⊎ ((j : ℕ) × (j < length g.types) × (k ≡ t.size + j)) → m < t'.size
      arc_in k f m e (inl a) = wider m (old.table.arc_in k f m a (sym (enters.arc_old k f a) ∙ e))
      arc_in k f m e (inr (j, a, is')) =
          let r = new_arc j f m a (ap (λ i. t'.arc i f) (sym is') ∙ e) in
          let inside = graph.numbered.table.arc_in j f r.0 a r.1 in
          omega (arith, r.2, inside, enters.size_is)

  abbrev work' : List NodeClaim
  work' = is_same n [] t.size [] ∷ full

  kept : (d : NodeClaim) → Stated t full d → Follows s t' (is_same n [] t.size [] ∷ full) d
  kept _ (by_node k h) = stated _ (by_node k (wider k h))
  kept _ (by_arc k f m h l e) = stated _ (by_arc k f m (wider k h) (enters.live_old k h ∙ l) (enters.arc_old k f h ∙ e))
  kept _ (by_merge k h) =
      subst (λ x. Follows s t' (is_same n [] t.size [] ∷ full) (is_same k [] x [])) (enters.live_old k h) (stated _ (by_merge k (wider k h)))
  kept _ (by_type k h l) =
      subst (λ x. Follows s t' (is_same n [] t.size [] ∷ full) (is_under k [] x)) (enters.type_old k h)
      (stated _ (by_type k (wider k h) (enters.live_old k h ∙ l)))
  kept _ (by_work c h) = stated _ (by_work c (there h))

  grows : (d : NodeClaim) → Follows s t full d → Follows s t' (is_same n [] t.size [] ∷ full) d
  grows d h = Follows-grows s t t' full (is_same n [] t.size [] ∷ full) kept d h

  walk_in : (p : Path) (k m : ℕ) → k < length g.types → walk (table_of g) k p ≡ Some m → walk t' (t.size + k) p ≡ Some (t.size + m)
  walk_in [] k m h e =
      let d : k ≡ m = cc in
      ap Some (live_new k ∙ ap (λ i. t.size + i) d)
  walk_in (f ∷ p) k m h e = go (arc_to (arcs_at g k) f) refl (λ j. walk_in p j m)
    where
      go : (x : Option ℕ) → arc_to (arcs_at g k) f ≡ x → ((j : ℕ) → j < length g.types → walk (table_of g) j p ≡ Some m → walk t' (t.size + j) p ≡ Some (t.size + m)) →
          walk t' (t.size + k) (f ∷ p) ≡ Some (t.size + m)
      go None is' rest =
          let stops : None ≡ walk (table_of g) k (f ∷ p) = ap (λ o. elim o as (λ _. Option ℕ) [ None ↦ None | Some j ↦ walk (table_of g) j p ]) (sym is') in
          absurd (let d : None ≡ Some m = stops ∙ e in cc)
      go (Some j) is' rest =
          let goes = walk-step (table_of g) k j f p is' in
          let inside = graph.numbered.table.arc_in k f j h is' in
          let arc : t'.arc (t'.live (t.size + k)) f ≡ Some (t.size + j) =
          ap (λ i. t'.arc i f) (live_new k) ∙ enters.arc_new k f h ∙ ap (option_map (λ i. t.size + i)) is' in
          walk-step t' (t.size + k) (t.size + j) f p arc ∙ rest j inside (sym goes ∙ e)

  walk_ends_in : (p : Path) (k m : ℕ) → k < length g.types → walk (table_of g) k p ≡ Some m → m < length g.types
  walk_ends_in [] k m h e = let d : k ≡ m = cc in subst (λ i. i < length g.types) d h
  walk_ends_in (f ∷ p) k m h e = go (arc_to (arcs_at g k) f) refl (λ j. walk_ends_in p j m)
    where
      go : (x : Option ℕ) → arc_to (arcs_at g k) f ≡ x → ((j : ℕ) → j < length g.types → walk (table_of g) j p ≡ Some m → m < length g.types) → m < length g.types
      go None is' rest =
          let stops : None ≡ walk (table_of g) k (f ∷ p) = ap (λ o. elim o as (λ _. Option ℕ) [ None ↦ None | Some j ↦ walk (table_of g) j p ]) (sym is') in
          absurd (let d : None ≡ Some m = stops ∙ e in cc)
      go (Some j) is' rest = rest j (graph.numbered.table.arc_in k f j h is') (sym (walk-step (table_of g) k j f p is') ∙ e)

  -- what is seen in the graph follows in the table
  type_follows : (k u : ℕ) → k < length g.types → s.is_below (type_at g k) u ≡ true → Follows s t' (is_same n [] t.size [] ∷ full) (is_under (t.size + k) [] u)
  type_follows k u h b =
      let inside : t.size + k < t'.size = omega (arith, enters.size_is) in
      under_higher (t.size + k) (t'.type_of (t.size + k)) u [] (stated _ (by_type (t.size + k) inside (live_new k)))
      (ap (λ y. s.is_below y u) (enters.type_new k h) ∙ b)

  path_follows : (k : ℕ) (q : Path) (m : ℕ) → k < length g.types → walk (table_of g) k q ≡ Some m →
      Follows s t' (is_same n [] t.size [] ∷ full) (is_same (t.size + k) q (t.size + m) [])
  path_follows k q m h e =
      let inside : t.size + k < t'.size = omega (arith, enters.size_is) in
      walk_follows s t' (is_same n [] t.size [] ∷ full) table' (t.size + k) (t.size + m) q inside (walk_in q k m h e)

  seen_follows : (k : ℕ) (c : Claim) → k < length g.types → Seen s (table_of g) (from k c) → Follows s t' (is_same n [] t.size [] ∷ full) (from (t.size + k) c)
  seen_follows k (exists_at q) h x = there_left _ _ _ _ (path_follows k q x.0 h x.1)
  seen_follows k (same q r) h x = same_on _ _ _ _ _ _ (path_follows k q x.0 h x.1) (same_back _ _ _ _ (path_follows k r x.0 h x.2))
  seen_follows k (below q u) h x =
      under_same (t.size + x.0) (t.size + k) u [] q (same_back _ _ _ _ (path_follows k q x.0 h x.1)) (type_follows x.0 u (walk_ends_in q k x.0 h x.1) x.2)

  read_new : (c : NodeClaim) → InTable t.size c → Closure s (Told source) (read w c) → Closure s (Told source) (read (extended w t.size (w n) graph.least) c)
  read_new c h r = subst (Closure s (Told source)) (sym (read-agree w (extended w t.size (w n) graph.least) t.size agrees c h)) r

  said_node : (k : ℕ) → k < t'.size → Closure s (Told source) (exists_at (extended w t.size (w n) graph.least k ++ []))
  said_node k h = go (old_or_new k h)
    where
      go : (k < t.size) ⊎ ((j : ℕ) × (j < length g.types) × (k ≡ t.size + j)) → Closure s (Told source) (exists_at (extended w t.size (w n) graph.least k ++ []))
      go (inl a) = read_new (is_there k []) a (old.sound.stated_in _ (by_node k a))
      go (inr (j, a, is')) =
          subst (λ p. Closure s (Told source) (exists_at p)) (sym (append-nil _ ∙ ap (extended w t.size (w n) graph.least) is' ∙ at_new j)) (node_exists j a)

  said : (c : NodeClaim) → Stated t' (is_same n [] t.size [] ∷ full) c → Closure s (Told source) (read (extended w t.size (w n) graph.least) c)
  said _ (by_node k h) = said_node k h
  said _ (by_arc k f m h l e) = go (old_or_new k h)
    where
      go : (k < t.size) ⊎ ((j : ℕ) × (j < length g.types) × (k ≡ t.size + j)) →
          Closure s (Told source) (same (extended w t.size (w n) graph.least k ++ f ∷ []) (extended w t.size (w n) graph.least m ++ []))
      go (inl a) =
          let e' = sym (enters.arc_old k f a) ∙ e in
          read_new (is_same k (f ∷ []) m []) (a, old.table.arc_in k f m a e') (old.sound.stated_in _ (by_arc k f m a (sym (enters.live_old k a) ∙ l) e'))
      go (inr (j, a, is')) =
          let r = new_arc j f m a (ap (λ i. t'.arc i f) (sym is') ∙ e) in
          let left = ap (extended w t.size (w n) graph.least) is' ∙ at_new j in
          let right = append-nil _ ∙ ap (extended w t.size (w n) graph.least) r.2 ∙ at_new r.0 in
          subst (λ p. Closure s (Told source) (same (p ++ f ∷ []) (extended w t.size (w n) graph.least m ++ []))) (sym left)
          (subst (λ p. Closure s (Told source) (same ((w n ++ graph.least j) ++ f ∷ []) p)) (sym right) (node_arc j f r.0 a r.1))
  said _ (by_merge k h) = go (old_or_new k h)
    where
      go : (k < t.size) ⊎ ((j : ℕ) × (j < length g.types) × (k ≡ t.size + j)) →
          Closure s (Told source) (same (extended w t.size (w n) graph.least k ++ []) (extended w t.size (w n) graph.least (t'.live k) ++ []))
      go (inl a) =
          subst (λ x. Closure s (Told source) (same (extended w t.size (w n) graph.least k ++ []) (extended w t.size (w n) graph.least x ++ [])))
          (sym (enters.live_old k a))
          (read_new (is_same k [] (t.live k) []) (a, old.table.live_in k a) (old.sound.stated_in _ (by_merge k a)))
      go (inr (j, a, is')) =
          let itself : t'.live k ≡ k = ap t'.live is' ∙ live_new j ∙ sym is' in
          subst (λ x. Closure s (Told source) (same (extended w t.size (w n) graph.least k ++ []) (extended w t.size (w n) graph.least x ++ []))) (sym itself)
          (same_refl _ (said_node k h))
  said _ (by_type k h l) = go (old_or_new k h)
    where
      go : (k < t.size) ⊎ ((j : ℕ) × (j < length g.types) × (k ≡ t.size + j)) →
          Closure s (Told source) (below (extended w t.size (w n) graph.least k ++ []) (t'.type_of k))
      go (inl a) =
          subst (λ u. Closure s (Told source) (below (extended w t.size (w n) graph.least k ++ []) u)) (sym (enters.type_old k a))
          (read_new (is_under k [] (t.type_of k)) a (old.sound.stated_in _ (by_type k a (sym (enters.live_old k a) ∙ l))))
      go (inr (j, a, is')) =
          subst (λ u. Closure s (Told source) (below (extended w t.size (w n) graph.least k ++ []) u)) (sym (ap t'.type_of is' ∙ enters.type_new j a))
          (subst (λ p. Closure s (Told source) (below p (type_at g j))) (sym (append-nil _ ∙ ap (extended w t.size (w n) graph.least) is' ∙ at_new j)) (node_typed j a))
  said _ (by_work c h) = work_said c h
    where
      work_said : (c : NodeClaim) → Has c (is_same n [] t.size [] ∷ full) → Closure s (Told source) (read (extended w t.size (w n) graph.least) c)
      work_said _ here =
          let z : t.size ≡ t.size + 0 = omega arith in
          let start = append-nil _ ∙ agrees n n_in in
          let end = append-nil _ ∙ ap (extended w t.size (w n) graph.least) z ∙ at_new 0 ∙ ap (λ p. w n ++ p) (con_root s g graph v is) ∙ append-nil (w n) in
          subst (λ p. Closure s (Told source) (same p (extended w t.size (w n) graph.least t.size ++ []))) (sym start)
          (subst (λ p. Closure s (Told source) (same (w n) p)) (sym end) (same_refl (w n) (below_exists (w n) v under)))
      work_said c (there i) = read_new c (old.in_table c i) (old.sound.stated_in _ (by_work c i))

  pub Closes-grafts : Closes s (Told source) t' (is_same n [] t.size [] ∷ full) (extended w t.size (w n) graph.least)
  Closes-grafts = record {
    table = table';
    filled = wider 0 old.filled;
    in_table = in_table;
    sound = record { root = agrees 0 old.filled ∙ old.sound.root; stated_in = said };
    complete = record {
      starts = λ c x. grows _ (old.complete.starts c x);
      introduces = λ k f m h l e. introduces k f m l e (old_or_new k h);
      constrains = λ k u c h l b i. constrains k u c l b i (old_or_new k h);
    };
  }
    where
      grown : (c : NodeClaim) → InTable t.size c → InTable t'.size c
      grown (is_there k p) h = wider k h
      grown (is_same k p m q) h = (wider k h.0, wider m h.1)
      grown (is_under k p u) h = wider k h

      in_table : (c : NodeClaim) → Has c (is_same n [] t.size [] ∷ full) → InTable t'.size c
      in_table _ here = (wider n n_in, (let d : t.size < t'.size = omega (arith, enters.size_is, root_in) in d))
      in_table c (there i) = grown c (old.in_table c i)

      introduces : (k f m : ℕ) → t'.live k ≡ k → t'.arc k f ≡ Some m → (k < t.size) ⊎ ((j : ℕ) × (j < length g.types) × (k ≡ t.size + j)) →
          Follows s t' (is_same n [] t.size [] ∷ full) (is_under k [] (s.introducer f))
      introduces k f m l e (inl a) =
          grows _ (old.complete.introduces k f m a (sym (enters.live_old k a) ∙ l) (sym (enters.arc_old k f a) ∙ e))
      introduces k f m l e (inr (j, a, is')) =
          let r = new_arc j f m a (ap (λ i. t'.arc i f) (sym is') ∙ e) in
          subst (λ i. Follows s t' (is_same n [] t.size [] ∷ full) (is_under i [] (s.introducer f))) (sym is')
          (type_follows j (s.introducer f) a (con_introduced s g graph v is j f r.0 a r.1))

      constrains : (k u : ℕ) (c : Claim) → t'.live k ≡ k → s.is_below (t'.type_of k) u ≡ true → Has c (s.facts_of u) →
          (k < t.size) ⊎ ((j : ℕ) × (j < length g.types) × (k ≡ t.size + j)) → Follows s t' (is_same n [] t.size [] ∷ full) (from k c)
      constrains k u c l b i (inl a) =
          grows _ (old.complete.constrains k u c a (sym (enters.live_old k a) ∙ l) (ap (λ y. s.is_below y u) (sym (enters.type_old k a)) ∙ b) i)
      constrains k u c l b i (inr (j, a, is')) =
          let at_type = ap (λ y. s.is_below y u) (sym (ap t'.type_of is' ∙ enters.type_new j a)) ∙ b in
          subst (λ x. Follows s t' (is_same n [] t.size [] ∷ full) (from x c)) (sym is')
          (seen_follows j c a (con_constrained s g graph v is j u c a at_type i))
