-- A graph enters a table as a part.
use Rattle.std.proofs.Common.{ℕ, ◌≡◌, ◌≤◌, ◌<◌, ◌+◌, ◌-◌, ◌⊎◌, inl, inr, true, Option, Some, None, List, [], ◌∷◌, ◌++◌, length, append-nil, append_assoc, refl, sym, ◌∙◌, ap, subst, arith}
use Rattle.std.proofs.lemmas.Bool.{cases_lt}
use Rattle.std.specs.Option.{option_map}
use Rattle.fs_model.specs.Claims.{Path, Claim, exists_at, same, below, at, System, IsBare, Has, here}
use Rattle.fs_model.specs.Closure.{Closure, given_claim, same_exists, prefix, same_refl, introduced, raised, topped, constrained}
use Rattle.fs_model.specs.Sources.{Tells, tells_exists, tells_same, tells_below, Part, Source, Told, told_claim, told_part}
use Rattle.fs_model.specs.Table.{Table, IsTable, NodeClaim, is_there, is_same, is_under, from, Seen, Stated, by_node, by_arc, by_merge, by_type, by_work, Follows, stated, walk, read}
use Rattle.fs_model.specs.Steps.{InTable, Closes, Starts}
use Rattle.fs_model.specs.Numbering.{IsBefore}
use Rattle.fs_model.proofs.StepLemmas.{Follows-grows, read-agree}
use Rattle.fs_model.proofs.MoreSteps.{read-from}
use Rattle.fs_model.proofs.TableLemmas.{walk-append, walk-step}
use Rattle.fs_model.proofs.PartLemmas.{part_follows}
use Rattle.fs_unify.proofs.StandLemmas.{graph_stands, node_under, seen_stands}
use Rattle.fs_graph.specs.declared.graph.GraphArc.{GraphArc}
use Rattle.fs_graph.specs.GraphMap.{GraphMap, IsGraph, table_of, type_at, arcs_at, arc_to, reader_of}
use Rattle.fs_closing.specs.Joined.{IsJoined}
use Rattle.fs_unify.specs.Entering.{EntersTable, Owes, IsOwed, Entered}
use Rattle.fs_closing.proofs.HasLemmas.{Has-left, Has-right, Has-either, Has-one}
use Rattle.fs_unify.proofs.EnterLemmas.{arc_to_has, rises_found}

-- a path for old nodes and one for new ones
abbrev pick : (k size : ℕ) → (k < size) ⊎ (size ≤ k) → Path → Path → Path
pick k size (inl _) a b = a
pick k size (inr _) a b = b

pick_old : (k size : ℕ) (d : (k < size) ⊎ (size ≤ k)) (a b : Path) → k < size → pick k size d a b ≡ a
pick_old k size (inl _) a b h = refl
pick_old k size (inr x) a b h = absurd (omega arith)

pick_new : (k size : ℕ) (d : (k < size) ⊎ (size ≤ k)) (a b : Path) → size ≤ k → pick k size d a b ≡ b
pick_new k size (inl x) a b h = absurd (omega arith)
pick_new k size (inr _) a b h = refl

abbrev pub extended : (ℕ → Path) → ℕ → Path → (ℕ → Path) → ℕ → Path
extended w size place least k = pick k size (cases_lt k size) (w k) (place ++ least (k - size))

not_before : (p : Path) → IsBefore p [] → ⊥
not_before p h = go p [] refl h
  where
    go : (p q : Path) → q ≡ [] → IsBefore p q → ⊥
    go p [] e h = elim h [ ]
    go p (f ∷ q) e h = absurd (let d : f ∷ q ≡ [] = e in cc)

-- A graph that enters where a path leads from a node, of which nothing is told there that the closure hasn't.
module _ (s : System) (source : Source) (place : Path) (g : GraphMap) (graph : IsGraph g)
    (told : (c : Claim) → Tells (reader_of g) c → Closure s (Told source) (at place c)) (t t' : Table) (enters : EntersTable g t t')
    (entry : ℕ) (way : Path) (full joined full' : List NodeClaim) (joins : IsJoined (is_same entry way t.size [] ∷ []) full joined)
    (owed : IsOwed s t.size g joined full') (w : ℕ → Path) (ps : List Part) (old : Entered s source ps t full w)
    (entry_in : entry < t.size) (placed : w entry ++ way ≡ place) where
  abbrev o : ℕ
  o = t.size

  abbrev count : ℕ
  count = length g.types

  abbrev w' : ℕ → Path
  w' = extended w t.size place graph.least

  agrees : (k : ℕ) → k < t.size → extended w t.size place graph.least k ≡ w k
  agrees k h = pick_old k t.size (cases_lt k t.size) (w k) (place ++ graph.least (k - t.size)) h

  at_new : (k : ℕ) → extended w t.size place graph.least (t.size + k) ≡ place ++ graph.least k
  at_new k =
      pick_new (t.size + k) t.size (cases_lt (t.size + k) t.size) (w (t.size + k)) (place ++ graph.least (t.size + k - t.size)) (omega arith)
      ∙ ap (λ i. place ++ graph.least i) (let e : t.size + k - t.size ≡ k = omega arith in e)

  root_in : 0 < length g.types
  root_in = graph.numbered.filled

  leads : (k : ℕ) → k < length g.types → walk (table_of g) 0 (graph.least k) ≡ Some k
  leads k h = (graph.numbered.is_least k h).leads

  least_root : graph.least 0 ≡ []
  least_root = go ((graph.numbered.is_least 0 root_in).least [] refl)
    where
      go : (graph.least 0 ≡ []) ⊎ IsBefore (graph.least 0) [] → graph.least 0 ≡ []
      go (inl e) = e
      go (inr h) = absurd (not_before (graph.least 0) h)

  node_exists : (k : ℕ) → k < length g.types → Closure s (Told source) (exists_at (place ++ graph.least k))
  node_exists k h = told (exists_at (graph.least k)) (tells_exists (graph.least k) k (leads k h))

  node_typed : (k : ℕ) → k < length g.types → Closure s (Told source) (below (place ++ graph.least k) (type_at g k))
  node_typed k h = told (below (graph.least k) (type_at g k)) (tells_below (graph.least k) k (leads k h))

  node_arc : (k f m : ℕ) → k < length g.types → arc_to (arcs_at g k) f ≡ Some m →
      Closure s (Told source) (same ((place ++ graph.least k) ++ f ∷ []) (place ++ graph.least m))
  node_arc k f m h e =
      let m_in = graph.numbered.table.arc_in k f m h e in
      let one = walk-append (table_of g) graph.numbered.table 0 k (graph.least k) (f ∷ []) (leads k h) ∙ walk-step (table_of g) k m f [] e in
      subst (λ p. Closure s (Told source) (same p (place ++ graph.least m))) (sym (append_assoc place (graph.least k) (f ∷ [])))
      (told (same (graph.least k ++ f ∷ []) (graph.least m)) (tells_same (graph.least k ++ f ∷ []) (graph.least m) m one (leads m m_in)))

  node_feature : (k f m : ℕ) → k < length g.types → arc_to (arcs_at g k) f ≡ Some m → Closure s (Told source) (below (place ++ graph.least k) (s.introducer f))
  node_feature k f m h e = introduced (place ++ graph.least k) f (same_exists _ _ (node_arc k f m h e))

  wider : (k : ℕ) → k < t.size → k < t'.size
  wider k h = omega (arith, enters.size_is)

  old_or_new : (k : ℕ) → k < t'.size → (k < t.size) ⊎ ((j : ℕ) × (j < length g.types) × (k ≡ t.size + j))
  old_or_new k h = go (cases_lt k t.size)
    where
      go : (k < t.size) ⊎ (t.size ≤ k) → (k < t.size) ⊎ ((j : ℕ) × (j < length g.types) × (k ≡ t.size + j))
      go (inl a) = inl a
      go (inr a) = inr (k - t.size, omega (arith, enters.size_is), omega arith)

  live_is : (k : ℕ) → t'.live k ≡ k
  live_is k = go (cases_lt k t.size)
    where
      go : (k < t.size) ⊎ (t.size ≤ k) → t'.live k ≡ k
      go (inl a) = enters.live_old k a ∙ old.live_is k
      go (inr a) = enters.live_new k a

  -- an arc of a new node
  new_arc : (k f m : ℕ) → k < length g.types → t'.arc (t.size + k) f ≡ Some m → (j : ℕ) × (arc_to (arcs_at g k) f ≡ Some j) × (m ≡ t.size + j)
  new_arc k f m h e = go (arc_to (arcs_at g k) f) refl
    where
      go : (x : Option ℕ) → arc_to (arcs_at g k) f ≡ x → (j : ℕ) × (arc_to (arcs_at g k) f ≡ Some j) × (m ≡ t.size + j)
      go None is = absurd (let d : Some m ≡ None = sym e ∙ enters.arc_new k f h ∙ ap (option_map (λ i. t.size + i)) is in cc)
      go (Some j) is =
          let d : Some m ≡ Some (t.size + j) = sym e ∙ enters.arc_new k f h ∙ ap (option_map (λ i. t.size + i)) is in
          (j, is, (let q : m ≡ t.size + j = cc in q))

  table' : IsTable t'
  table' = record {
    live_in = λ n h. subst (λ x. x < t'.size) (sym (live_is n)) h;
    live_twice = λ n. ap t'.live (live_is n);
    arc_in = λ n f m h e. arc_in n f m e (old_or_new n h);
  }
    where
      arc_in : (n f m : ℕ) → t'.arc n f ≡ Some m → (n < t.size) ⊎ ((j : ℕ) × (j < length g.types) × (n ≡ t.size + j)) → m < t'.size
      arc_in n f m e (inl a) = wider m (old.table.arc_in n f m a (sym (enters.arc_old n f a) ∙ e))
      arc_in n f m e (inr (j, a, is)) =
          let r = new_arc j f m a (ap (λ i. t'.arc i f) (sym is) ∙ e) in
          let inside = graph.numbered.table.arc_in j f r.0 a r.1 in
          omega (arith, r.2, inside, enters.size_is)

  kept_work : (c : NodeClaim) → Has c joined → Has c full'
  kept_work c h = owed.rest c h

  only_work : (c : NodeClaim) → Has c full' →
      ((k : ℕ) × (x : ℕ) × (d : Claim) × (k < length g.types) × (s.is_below (type_at g k) x ≡ true) × Has d (s.facts_of x) × (c ≡ from (t.size + k) d)) ⊎
      ((k : ℕ) × (a : GraphArc) × (k < length g.types) × Has a (arcs_at g k) × (c ≡ is_under (t.size + k) [] (s.introducer a.feat.0))) ⊎ Has c joined
  only_work c h = owed.only c h

  in_work : (c : NodeClaim) → Has c full → Has c full'
  in_work c h = kept_work c (joins.from_old c h)

  kept : (d : NodeClaim) → Stated t full d → Follows s t' full' d
  kept _ (by_node n h) = stated _ (by_node n (wider n h))
  kept _ (by_arc n f m h l e) = stated _ (by_arc n f m (wider n h) (live_is n) (enters.arc_old n f h ∙ e))
  kept _ (by_merge n h) = subst (λ x. Follows s t' full' (is_same n [] x [])) (enters.live_old n h) (stated _ (by_merge n (wider n h)))
  kept _ (by_type n h l) = subst (λ x. Follows s t' full' (is_under n [] x)) (enters.type_old n h) (stated _ (by_type n (wider n h) (live_is n)))
  kept _ (by_work c h) = stated _ (by_work c (in_work c h))

  grows : (d : NodeClaim) → Follows s t full d → Follows s t' full' d
  grows d h = Follows-grows s t t' full full' kept d h

  type_follows : (k u : ℕ) → k < length g.types → s.is_below (type_at g k) u ≡ true → Follows s t' full' (is_under (t.size + k) [] u)
  type_follows k u h b = node_under s g graph t t' enters table' full' k u h b

  seen_follows : (k : ℕ) (c : Claim) → k < length g.types → Seen s (table_of g) (from k c) → Follows s t' full' (from (t.size + k) c)
  seen_follows k c h x = seen_stands s g graph t t' enters table' full' k c h x

  read_new : (c : NodeClaim) → InTable t.size c → Closure s (Told source) (read w c) → Closure s (Told source) (read (extended w t.size place graph.least) c)
  read_new c h r = subst (Closure s (Told source)) (sym (read-agree w (extended w t.size place graph.least) t.size agrees c h)) r

  said_node : (n : ℕ) → n < t'.size → Closure s (Told source) (exists_at (extended w t.size place graph.least n ++ []))
  said_node n h = go (old_or_new n h)
    where
      go : (n < t.size) ⊎ ((j : ℕ) × (j < length g.types) × (n ≡ t.size + j)) → Closure s (Told source) (exists_at (extended w t.size place graph.least n ++ []))
      go (inl a) = read_new (is_there n []) a (old.sound.stated_in _ (by_node n a))
      go (inr (j, a, is)) =
          subst (λ p. Closure s (Told source) (exists_at p)) (sym (append-nil _ ∙ ap (extended w t.size place graph.least) is ∙ at_new j)) (node_exists j a)

  said : (c : NodeClaim) → Stated t' full' c → Closure s (Told source) (read (extended w t.size place graph.least) c)
  said _ (by_node n h) = said_node n h
  said _ (by_arc n f m h l e) = go (old_or_new n h)
    where
      go : (n < t.size) ⊎ ((j : ℕ) × (j < length g.types) × (n ≡ t.size + j)) →
          Closure s (Told source) (same (extended w t.size place graph.least n ++ f ∷ []) (extended w t.size place graph.least m ++ []))
      go (inl a) =
          let e' = sym (enters.arc_old n f a) ∙ e in
          read_new (is_same n (f ∷ []) m []) (a, old.table.arc_in n f m a e') (old.sound.stated_in _ (by_arc n f m a (old.live_is n) e'))
      go (inr (j, a, is)) =
          let r = new_arc j f m a (ap (λ i. t'.arc i f) (sym is) ∙ e) in
          let left = ap (extended w t.size place graph.least) is ∙ at_new j in
          let right = append-nil _ ∙ ap (extended w t.size place graph.least) r.2 ∙ at_new r.0 in
          subst (λ p. Closure s (Told source) (same (p ++ f ∷ []) (extended w t.size place graph.least m ++ []))) (sym left)
          (subst (λ p. Closure s (Told source) (same ((place ++ graph.least j) ++ f ∷ []) p)) (sym right) (node_arc j f r.0 a r.1))
  said _ (by_merge n h) =
      subst (λ x. Closure s (Told source) (same (extended w t.size place graph.least n ++ []) (extended w t.size place graph.least x ++ []))) (sym (live_is n))
      (same_refl _ (said_node n h))
  said _ (by_type n h l) = go (old_or_new n h)
    where
      go : (n < t.size) ⊎ ((j : ℕ) × (j < length g.types) × (n ≡ t.size + j)) →
          Closure s (Told source) (below (extended w t.size place graph.least n ++ []) (t'.type_of n))
      go (inl a) =
          subst (λ u. Closure s (Told source) (below (extended w t.size place graph.least n ++ []) u)) (sym (enters.type_old n a))
          (read_new (is_under n [] (t.type_of n)) a (old.sound.stated_in _ (by_type n a (old.live_is n))))
      go (inr (j, a, is)) =
          subst (λ u. Closure s (Told source) (below (extended w t.size place graph.least n ++ []) u)) (sym (ap t'.type_of is ∙ enters.type_new j a))
          (subst (λ p. Closure s (Told source) (below p (type_at g j))) (sym (append-nil _ ∙ ap (extended w t.size place graph.least) is ∙ at_new j)) (node_typed j a))
  said _ (by_work c h) = go (only_work c h)
    where
      older : Has c (is_same entry way t.size [] ∷ []) ⊎ Has c full → Closure s (Told source) (read (extended w t.size place graph.least) c)
      older (inr i) = read_new c (old.in_table c i) (old.sound.stated_in _ (by_work c i))
      older (inl i) =
          let z : t.size ≡ t.size + 0 = omega arith in
          let end = append-nil _ ∙ ap (extended w t.size place graph.least) z ∙ at_new 0 ∙ ap (λ p. place ++ p) least_root ∙ append-nil place in
          let start = ap (λ p. p ++ way) (agrees entry entry_in) ∙ placed in
          let there' = subst (λ p. Closure s (Told source) (exists_at p)) (ap (λ p. place ++ p) least_root ∙ append-nil place) (node_exists 0 root_in) in
          subst (λ d. Closure s (Told source) (read (extended w t.size place graph.least) d)) (sym (Has-one c _ i))
          (subst (λ p. Closure s (Told source) (same p (extended w t.size place graph.least t.size ++ []))) (sym start)
          (subst (λ p. Closure s (Told source) (same place p)) (sym end) (same_refl place there')))

      go : ((k : ℕ) × (x : ℕ) × (d : Claim) × (k < length g.types) × (s.is_below (type_at g k) x ≡ true) × Has d (s.facts_of x) × (c ≡ from (t.size + k) d)) ⊎
          ((k : ℕ) × (a : GraphArc) × (k < length g.types) × Has a (arcs_at g k) × (c ≡ is_under (t.size + k) [] (s.introducer a.feat.0))) ⊎ Has c joined →
          Closure s (Told source) (read (extended w t.size place graph.least) c)
      go (inl (k, x, d, a, b, i, e)) =
          subst (λ y. Closure s (Told source) (read (extended w t.size place graph.least) y)) (sym e)
          (subst (Closure s (Told source)) (sym (read-from (extended w t.size place graph.least) (t.size + k) d ∙ ap (λ p. at p d) (at_new k)))
          (constrained (place ++ graph.least k) x d (raised (place ++ graph.least k) (type_at g k) x (node_typed k a) b) i))
      go (inr (inl (k, a, h, i, e))) =
          let found = rises_found (arcs_at g k) a (graph.rises k h) i in
          subst (λ y. Closure s (Told source) (read (extended w t.size place graph.least) y)) (sym e)
          (subst (λ p. Closure s (Told source) (below p (s.introducer a.feat.0))) (sym (append-nil _ ∙ at_new k)) (node_feature k a.feat.0 a.to.0 h found))
      go (inr (inr i)) = older (joins.only c i)

  -- the graphs before it stand as they did
  pub Entered-beside : Entered s source ps t' full' (extended w t.size place graph.least)
  Entered-beside = record {
    table = table';
    filled = wider 0 old.filled;
    live_is = live_is;
    in_table = λ c h. in_table c (only_work c h);
    sound = record { root = agrees 0 old.filled ∙ old.sound.root; stated_in = said };
    starts = λ p c h i. grows _ (old.starts p c h i);
    introduces = λ n f m h e. introduces n f m e (old_or_new n h);
    constrains = λ n u c h b i. constrains n u c b i (old_or_new n h);
  }
    where
      grown : (c : NodeClaim) → InTable t.size c → InTable t'.size c
      grown (is_there n p) h = wider n h
      grown (is_same n p m q) h = (wider n h.0, wider m h.1)
      grown (is_under n p u) h = wider n h

      at_node : (n : ℕ) (d : Claim) → n < t'.size → InTable t'.size (from n d)
      at_node n (exists_at p) h = h
      at_node n (same p q) h = (h, h)
      at_node n (below p u) h = h

      first_in : t.size < t'.size
      first_in = omega (arith, enters.size_is, root_in)

      older : (c : NodeClaim) → Has c (is_same entry way t.size [] ∷ []) ⊎ Has c full → InTable t'.size c
      older c (inl i) = subst (InTable t'.size) (sym (Has-one c _ i)) (wider entry entry_in, first_in)
      older c (inr i) = grown c (old.in_table c i)

      in_table : (c : NodeClaim) →
          ((k : ℕ) × (x : ℕ) × (d : Claim) × (k < length g.types) × (s.is_below (type_at g k) x ≡ true) × Has d (s.facts_of x) × (c ≡ from (t.size + k) d)) ⊎
          ((k : ℕ) × (a : GraphArc) × (k < length g.types) × Has a (arcs_at g k) × (c ≡ is_under (t.size + k) [] (s.introducer a.feat.0))) ⊎ Has c joined →
          InTable t'.size c
      in_table c (inl (k, x, d, a, b, i, e)) = subst (InTable t'.size) (sym e) (at_node (t.size + k) d (omega (arith, enters.size_is)))
      in_table c (inr (inl (k, a, h, i, e))) =
          subst (InTable t'.size) (sym e) (let inside : t.size + k < t'.size = omega (arith, enters.size_is) in inside)
      in_table c (inr (inr i)) = older c (joins.only c i)

      introduces : (n f m : ℕ) → t'.arc n f ≡ Some m → (n < t.size) ⊎ ((j : ℕ) × (j < length g.types) × (n ≡ t.size + j)) →
          Follows s t' full' (is_under n [] (s.introducer f))
      introduces n f m e (inl a) = grows _ (old.introduces n f m a (sym (enters.arc_old n f a) ∙ e))
      introduces n f m e (inr (j, a, is)) = subst (λ i. Follows s t' full' (is_under i [] (s.introducer f))) (sym is) (go (owed.introduces j listed.0 a listed.1))
        where
          arc : (i : ℕ) × (arc_to (arcs_at g j) f ≡ Some i) × (m ≡ t.size + i)
          arc = new_arc j f m a (ap (λ i. t'.arc i f) (sym is) ∙ e)

          listed : (x : GraphArc) × Has x (arcs_at g j) × (x.feat.0 ≡ f) × (x.to.0 ≡ arc.0)
          listed = arc_to_has (arcs_at g j) f arc.0 arc.1

          go : Has (is_under (t.size + j) [] (s.introducer listed.0.feat.0)) full' ⊎ (s.is_below (type_at g j) (s.introducer listed.0.feat.0) ≡ true) →
              Follows s t' full' (is_under (t.size + j) [] (s.introducer f))
          go (inl h) = subst (λ i. Follows s t' full' (is_under (t.size + j) [] (s.introducer i))) listed.2 (stated _ (by_work _ h))
          go (inr h) = subst (λ i. Follows s t' full' (is_under (t.size + j) [] (s.introducer i))) listed.2 (type_follows j (s.introducer listed.0.feat.0) a h)

      constrains : (n u : ℕ) (c : Claim) → s.is_below (t'.type_of n) u ≡ true → Has c (s.facts_of u) → (n < t.size) ⊎ ((j : ℕ) × (j < length g.types) × (n ≡ t.size + j)) →
          Follows s t' full' (from n c)
      constrains n u c b i (inl a) = grows _ (old.constrains n u c a (ap (λ y. s.is_below y u) (sym (enters.type_old n a)) ∙ b) i)
      constrains n u c b i (inr (j, a, is)) =
          subst (λ k. Follows s t' full' (from k c)) (sym is) (go (owed.facts j u c a at_type i))
        where
          at_type : s.is_below (type_at g j) u ≡ true
          at_type = ap (λ y. s.is_below y u) (sym (ap t'.type_of is ∙ enters.type_new j a)) ∙ b

          go : Has (from (t.size + j) c) full' ⊎ Seen s (table_of g) (from j c) → Follows s t' full' (from (t.size + j) c)
          go (inl h) = stated _ (by_work _ h)
          go (inr h) = seen_follows j c a h

-- a part enters at its path
pub Entered-more : (s : System) (source : Source) (place : Path) (g : GraphMap) (graph : IsGraph g) →
    Has (record { place = place; reader = reader_of g }) source.parts → (t t' : Table) → EntersTable g t t' → (full joined full' : List NodeClaim) →
    IsJoined (is_same 0 place t.size [] ∷ []) full joined → IsOwed s t.size g joined full' → (w : ℕ → Path) (ps : List Part) → Entered s source ps t full w →
    (ps' : List Part) → ps' ≡ ps ++ (record { place = place; reader = reader_of g }) ∷ [] → Entered s source ps' t' full' (extended w t.size place graph.least)
Entered-more s source place g graph has t t' enters full joined full' joins owed w ps old ps' is = record {
  table = now.table;
  filled = now.filled;
  live_is = now.live_is;
  in_table = now.in_table;
  sound = now.sound;
  starts = λ p c h i. starts p c h i (Has-either p ps _ (subst (Has p) is h));
  introduces = now.introduces;
  constrains = now.constrains;
}
  where
    told : (c : Claim) → Tells (reader_of g) c → Closure s (Told source) (at place c)
    told c h = given_claim (at place c) (told_part (record { place = place; reader = reader_of g }) c has h)

    now : Entered s source ps t' full' (extended w t.size place graph.least)
    now =
        Entered-beside s source place g graph told t t' enters 0 place full joined full' joins owed w ps old old.filled
        (ap (λ p. p ++ place) old.sound.root)

    first_in : t.size < t'.size
    first_in = omega (arith, enters.size_is, graph.numbered.filled)

    joint : Has (is_same 0 place t.size []) full'
    joint = owed.rest _ (joins.from_new _ here)

    starts : (p : Part) (c : Claim) → Has p ps' → Tells p.reader c → Has p ps ⊎ Has p ((record { place = place; reader = reader_of g }) ∷ []) →
        Follows s t' full' (from 0 (at p.place c))
    starts p c h i (inl k) = now.starts p c k i
    starts p c h i (inr k) =
        let e = Has-one p _ k in
        subst (λ q. Follows s t' full' (from 0 (at q.place c))) (sym e)
        (part_follows s t' full' (reader_of g) place t.size (λ n. t.size + n) now.table first_in (graph_stands g graph t t' enters) joint c
        (subst (λ q. Tells q.reader c) e i))

-- other work beside it
pub Owes-beside : (s : System) (offset : ℕ) (g : GraphMap) (count : ℕ) (more work work' : List NodeClaim) → Owes s offset g count work work' →
    Owes s offset g count (more ++ work) (more ++ work')
Owes-beside s offset g count more work work' o = record {
  facts = λ k x c h b i. beside (o.facts k x c h b i);
  introduces = λ k a h i. beside (o.introduces k a h i);
  rest = λ c h. rest c (Has-either c more work h);
  only = λ c h. only c (Has-either c more work' h);
}
  where
    beside : {c : NodeClaim} {X : Type 0} → Has c work' ⊎ X → Has c (more ++ work') ⊎ X
    beside (inl h) = inl (Has-right _ more work' h)
    beside (inr h) = inr h

    rest : (c : NodeClaim) → Has c more ⊎ Has c work → Has c (more ++ work')
    rest c (inl h) = Has-left c more work' h
    rest c (inr h) = Has-right c more work' (o.rest c h)

    only : (c : NodeClaim) → Has c more ⊎ Has c work' →
        ((k : ℕ) × (x : ℕ) × (d : Claim) × (k < count) × (s.is_below (type_at g k) x ≡ true) × Has d (s.facts_of x) × (c ≡ from (offset + k) d)) ⊎
        ((k : ℕ) × (a : GraphArc) × (k < count) × Has a (arcs_at g k) × (c ≡ is_under (offset + k) [] (s.introducer a.feat.0))) ⊎ Has c (more ++ work)
    only c (inl h) = inr (inr (Has-left c more work h))
    only c (inr h) = go (o.only c h)
      where
        go : ((k : ℕ) × (x : ℕ) × (d : Claim) × (k < count) × (s.is_below (type_at g k) x ≡ true) × Has d (s.facts_of x) × (c ≡ from (offset + k) d)) ⊎
            ((k : ℕ) × (a : GraphArc) × (k < count) × Has a (arcs_at g k) × (c ≡ is_under (offset + k) [] (s.introducer a.feat.0))) ⊎ Has c work →
            ((k : ℕ) × (x : ℕ) × (d : Claim) × (k < count) × (s.is_below (type_at g k) x ≡ true) × Has d (s.facts_of x) × (c ≡ from (offset + k) d)) ⊎
            ((k : ℕ) × (a : GraphArc) × (k < count) × Has a (arcs_at g k) × (c ≡ is_under (offset + k) [] (s.introducer a.feat.0))) ⊎ Has c (more ++ work)
        go (inl x) = inl x
        go (inr (inl x)) = inr (inl x)
        go (inr (inr x)) = inr (inr (Has-right c more work x))

pub Owed-beside : (s : System) (offset : ℕ) (g : GraphMap) (more work work' : List NodeClaim) → IsOwed s offset g work work' → IsOwed s offset g (more ++ work) (more ++ work')
Owed-beside s offset g more work work' o = Owes-beside s offset g (length g.types) more work work' o

-- the root alone, where there is a part
pub Entered-none : (s : System) (source : Source) (t : Table) → IsBare s → Starts s t → Closure s (Told source) (exists_at []) → Entered s source [] t [] (λ _. [])
Entered-none s source t bare st root = record {
  table = record {
    live_in = λ n h. subst (λ x. x < t.size) (sym (st.live_is n)) h;
    live_twice = λ n. ap t.live (st.live_is n);
    arc_in = λ n f m h e. absurd (no_arc n f m h e);
  };
  filled = omega (arith, st.size_is);
  live_is = st.live_is;
  in_table = λ c h. elim h [ ];
  sound = record { root = refl; stated_in = said };
  starts = λ p c h i. elim h [ ];
  introduces = λ n f m h e. absurd (no_arc n f m h e);
  constrains = λ n u c h b i. absurd (bare u c (subst (λ y. s.is_below y u ≡ true) (type_top n h) b) i);
}
  where
    zero_is : (n : ℕ) → n < t.size → 0 ≡ n
    zero_is n h = omega (arith, st.size_is)

    no_arc : (n f m : ℕ) → n < t.size → t.arc n f ≡ Some m → ⊥
    no_arc n f m h e =
        let a : None ≡ Some m = sym (st.arc_is f) ∙ ap (λ x. t.arc x f) (zero_is n h) ∙ e in cc

    type_top : (n : ℕ) → n < t.size → t.type_of n ≡ s.top
    type_top n h = ap t.type_of (sym (zero_is n h)) ∙ st.type_is

    said : (c : NodeClaim) → Stated t [] c → Closure s (Told source) (read (λ _. []) c)
    said _ (by_node n h) = root
    said _ (by_arc n f m h l e) = absurd (no_arc n f m h e)
    said _ (by_merge n h) = same_refl [] root
    said _ (by_type n h l) = subst (λ u. Closure s (Told source) (below [] u)) (sym (type_top n h)) (topped [] root)
    said _ (by_work c h) = elim h [ ]

-- the root exists where there is a part
pub root_of_part : (s : System) (source : Source) (place : Path) (g : GraphMap) → IsGraph g → Has (record { place = place; reader = reader_of g }) source.parts →
    Closure s (Told source) (exists_at [])
root_of_part s source place g graph has =
    prefix [] (place ++ [])
    (given_claim (exists_at (place ++ [])) (told_part (record { place = place; reader = reader_of g }) (exists_at []) has (tells_exists [] 0 refl)))

-- when all parts are in, the table with its work stands for the source
pub closes_entered : (s : System) (source : Source) (t : Table) (work : List NodeClaim) (w : ℕ → Path) → source.claims ≡ [] → Entered s source source.parts t work w →
    Closes s (Told source) t work w
closes_entered s source t work w none e = record {
  table = e.table;
  filled = e.filled;
  in_table = e.in_table;
  sound = e.sound;
  complete = record {
    starts = starts;
    introduces = λ n f m h l a. e.introduces n f m h a;
    constrains = λ n u c h l b i. e.constrains n u c h b i;
  };
}
  where
    starts : (c : Claim) → Told source c → Follows s t work (from 0 c)
    starts _ (told_claim c h) = let i = subst (Has c) none h in elim i [ ]
    starts _ (told_part p c h i) = e.starts p c h i
