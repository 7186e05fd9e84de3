-- What stands in a table stands in a later one.
use Rattle.std.proofs.Common.{ℕ, ◌≡◌, ◌<◌, ◌+◌, ◌⊎◌, inl, inr, true, List, [], ◌∷◌, ◌++◌, length, append-nil, append_assoc, slice_index_or, Result, Ok, Err, OnOk, refl, sym, ◌∙◌, ap, subst, arith}
use Rattle.fs_model.specs.Claims.{Path, Claim, exists_at, same, below, at, System, Has, here, there}
use Rattle.fs_model.specs.Closure.{Closure, raised, constrained}
use Rattle.fs_model.specs.Sources.{Source, Part, Told, told_claim, told_part, Tells}
use Rattle.fs_model.specs.Table.{Table, IsTable, NodeClaim, is_same, is_under, from, Seen, Stated, by_node, by_arc, by_merge, by_type, by_work, Follows, stated, read}
use Rattle.fs_model.specs.Steps.{InTable}
use Rattle.fs_model.proofs.StepLemmas.{Follows-grows}
use Rattle.fs_model.proofs.MoreSteps.{read-from}
use Rattle.fs_graph.specs.declared.graph.GraphArc.{GraphArc}
use Rattle.fs_graph.specs.GraphMap.{IsGraph, table_of, type_at, arcs_at, reader_of}
use Rattle.type_hierarchy.specs.Table.{count_of, is_below}
use Rattle.fs_closing.specs.declared.tasks.Bound.{Bound}
use Rattle.fs_closing.specs.Constraints.{type_source}
use Rattle.fs_closing.specs.declared.nodes.Nodes.{Nodes}
use Rattle.fs_closing.specs.declared.tasks.Tasks.{Tasks}
use Rattle.fs_closing.specs.Keeps.{AreSound}
use Rattle.fs_closing.specs.NodeTable.{at_of, own_type, own_row, IsWhole, table_of as nodes_of}
use Rattle.fs_closing.specs.Joined.{IsJoined}
use Rattle.fs_closing.specs.NodeSteps.{EntersTable}
use Rattle.fs_closing.specs.Rules.{Grammar, no_rule, facts_in, system_of}
use Rattle.fs_closing.specs.Work.{entry_claims, AreReady}
use Rattle.fs_closing.proofs.HasLemmas.{Has-left, Has-right, Has-either, Has-map, Has-of_map}
use Rattle.fs_closing.proofs.MarkLemmas.{table_whole}
use Rattle.fs_closing.proofs.ReadLemmas.{closure_moves}
use Rattle.fs_closing.proofs.StepLemmas.{rule_of_fact}
use Rattle.fs_unify.specs.declared.debts.Debt.{Debt}
use Rattle.fs_unify.specs.Debts.{bound_claims, IsDebt}
use Rattle.fs_unify.specs.Entering.{Entered, IsOwed, Carries}
use Rattle.fs_unify.proofs.PartModel.{extended, Entered-beside, Owed-beside}
use Rattle.fs_unify.proofs.OwedLemmas.{claims_here}
use Rattle.fs_unify.proofs.StandLemmas.{seen_stands, follows_joined}

abbrev pub no_bound : Bound
no_bound = record { node = 0; ty = 0 }

-- what holds on success, once something else does
pub on_ok : {T E : Type 0} (r : Result T E) (P Q : Type 0) → (P → Q) → OnOk r P → OnOk r Q
on_ok (Ok x) P Q f h = f h
on_ok (Err e) P Q f h = h

pub on_both : {T E : Type 0} (r : Result T E) (P Q R : Type 0) → (P → Q → R) → OnOk r P → OnOk r Q → OnOk r R
on_both (Ok x) P Q R f h i = f h i
on_both (Err e) P Q R f h i = h

-- nodes are a table
pub nodes_table : (nodes : Nodes) → IsWhole nodes → IsTable (nodes_of nodes)
nodes_table nodes whole = table_whole (at_of nodes) (own_type nodes) (own_row nodes) nodes.cells nodes.merges nodes.size whole.stands

-- other work that is ready
pub sound_still : (g : Grammar) (nodes : Nodes) (old new : Tasks) → AreSound g nodes old → AreReady nodes.size (count_of g.types) (length g.rules) new → AreSound g nodes new
sound_still g nodes old new sound ready = record { whole = sound.whole; within = sound.within; ready = ready }

-- what follows from some work follows from more
pub follows_more : (s : System) (t : Table) (work work' : List NodeClaim) → ((c : NodeClaim) → Has c work → Has c work') → (c : NodeClaim) → Follows s t work c → Follows s t work' c
follows_more s t work work' more c h = Follows-grows s t t work work' kept c h
  where
    kept : (d : NodeClaim) → Stated t work d → Follows s t work' d
    kept _ (by_node n i) = stated _ (by_node n i)
    kept _ (by_arc n f m i l e) = stated _ (by_arc n f m i l e)
    kept _ (by_merge n i) = stated _ (by_merge n i)
    kept _ (by_type n i l) = stated _ (by_type n i l)
    kept _ (by_work d i) = stated _ (by_work d (more d i))

-- other work that says the same, of which nothing is said that the closure hasn't
pub Entered-rework : (s : System) (source : Source) (ps : List Part) (t : Table) (work work' : List NodeClaim) (w : ℕ → Path) → Entered s source ps t work w →
    ((c : NodeClaim) → Has c work' → Has c work ⊎ (InTable t.size c × Closure s (Told source) (read w c))) →
    ((c : NodeClaim) → Has c work → Follows s t work' c) → Entered s source ps t work' w
Entered-rework s source ps t work work' w old says keeps = record {
  table = old.table;
  filled = old.filled;
  live_is = old.live_is;
  in_table = λ c h. in_table c (says c h);
  sound = record { root = old.sound.root; stated_in = said };
  starts = λ p c h i. grows _ (old.starts p c h i);
  introduces = λ n f m h e. grows _ (old.introduces n f m h e);
  constrains = λ n u c h b i. grows _ (old.constrains n u c h b i);
}
  where
    kept : (d : NodeClaim) → Stated t work d → Follows s t work' d
    kept _ (by_node n i) = stated _ (by_node n i)
    kept _ (by_arc n f m i l e) = stated _ (by_arc n f m i l e)
    kept _ (by_merge n i) = stated _ (by_merge n i)
    kept _ (by_type n i l) = stated _ (by_type n i l)
    kept _ (by_work d i) = keeps d i

    grows : (d : NodeClaim) → Follows s t work d → Follows s t work' d
    grows d h = Follows-grows s t t work work' kept d h

    in_table : (c : NodeClaim) → Has c work ⊎ (InTable t.size c × Closure s (Told source) (read w c)) → InTable t.size c
    in_table c (inl i) = old.in_table c i
    in_table c (inr i) = i.0

    said_work : (c : NodeClaim) → Has c work ⊎ (InTable t.size c × Closure s (Told source) (read w c)) → Closure s (Told source) (read w c)
    said_work c (inl i) = old.sound.stated_in _ (by_work c i)
    said_work c (inr i) = i.1

    said : (c : NodeClaim) → Stated t work' c → Closure s (Told source) (read w c)
    said _ (by_node n i) = old.sound.stated_in _ (by_node n i)
    said _ (by_arc n f m i l e) = old.sound.stated_in _ (by_arc n f m i l e)
    said _ (by_merge n i) = old.sound.stated_in _ (by_merge n i)
    said _ (by_type n i l) = old.sound.stated_in _ (by_type n i l)
    said _ (by_work c i) = said_work c (says c i)

pub carries_none : (s : System) (t : Table) (work : List NodeClaim) → Carries s t work t work
carries_none s t work = record { more = omega arith; type_old = λ n h. refl; follows = λ c h. h; entered = λ extra source ps w e. (w, e) }

pub carries_on : (s : System) (t : Table) (work : List NodeClaim) (t1 : Table) (work1 : List NodeClaim) (t2 : Table) (work2 : List NodeClaim) →
    Carries s t work t1 work1 → Carries s t1 work1 t2 work2 → Carries s t work t2 work2
carries_on s t work t1 work1 t2 work2 a b = record {
  more = omega (arith, a.more, b.more);
  type_old = λ n h. b.type_old n (omega (arith, h, a.more)) ∙ a.type_old n h;
  follows = λ c h. b.follows c (a.follows c h);
  entered = λ extra source ps w e. let r = a.entered extra source ps w e in b.entered extra source ps r.0 r.1;
}

-- work that follows in the later table needn't be done
pub carries_paid : (s : System) (t : Table) (work : List NodeClaim) (t' : Table) (work' paid : List NodeClaim) → Carries s t work t' work' →
    ((c : NodeClaim) → Has c paid → Follows s t' work' c) → Carries s t (paid ++ work) t' work'
carries_paid s t work t' work' paid carried pays = record {
  more = carried.more;
  type_old = carried.type_old;
  follows = λ c h. Follows-grows s t t' (paid ++ work) work' kept c h;
  entered = entered;
}
  where
    each : (c : NodeClaim) → Has c paid ⊎ Has c work → Follows s t' work' c
    each c (inl h) = pays c h
    each c (inr h) = carried.follows c (stated _ (by_work c h))

    kept : (d : NodeClaim) → Stated t (paid ++ work) d → Follows s t' work' d
    kept _ (by_node n i) = carried.follows _ (stated _ (by_node n i))
    kept _ (by_arc n f m i l e) = carried.follows _ (stated _ (by_arc n f m i l e))
    kept _ (by_merge n i) = carried.follows _ (stated _ (by_merge n i))
    kept _ (by_type n i l) = carried.follows _ (stated _ (by_type n i l))
    kept _ (by_work d i) = each d (Has-either d paid work i)

    entered : (extra : List NodeClaim) (source : Source) (ps : List Part) (w : ℕ → Path) → Entered s source ps t (extra ++ (paid ++ work)) w →
        (w' : ℕ → Path) × Entered s source ps t' (extra ++ work') w'
    entered extra source ps w e = (r.0, Entered-rework s source ps t' ((extra ++ paid) ++ work') (extra ++ work') r.0 r.1 fewer keeps)
      where
        r : (w' : ℕ → Path) × Entered s source ps t' ((extra ++ paid) ++ work') w'
        r = carried.entered (extra ++ paid) source ps w (subst (λ l. Entered s source ps t l w) (sym (append_assoc extra paid work)) e)

        fewer : (c : NodeClaim) → Has c (extra ++ work') → Has c ((extra ++ paid) ++ work') ⊎ (InTable t'.size c × Closure s (Told source) (read r.0 c))
        fewer c h = inl (back c (Has-either c extra work' h))
          where
            back : (c : NodeClaim) → Has c extra ⊎ Has c work' → Has c ((extra ++ paid) ++ work')
            back c (inl i) = Has-left c (extra ++ paid) work' (Has-left c extra paid i)
            back c (inr i) = Has-right c (extra ++ paid) work' i

        keeps : (c : NodeClaim) → Has c ((extra ++ paid) ++ work') → Follows s t' (extra ++ work') c
        keeps c h = go (Has-either c (extra ++ paid) work' h)
          where
            mine : Has c extra ⊎ Has c paid → Follows s t' (extra ++ work') c
            mine (inl i) = stated _ (by_work c (Has-left c extra work' i))
            mine (inr i) = follows_more s t' work' (extra ++ work') (λ d j. Has-right d extra work' j) c (pays c i)

            go : Has c (extra ++ paid) ⊎ Has c work' → Follows s t' (extra ++ work') c
            go (inl i) = mine (Has-either c extra paid i)
            go (inr i) = stated _ (by_work c (Has-right c extra work' i))

-- work that is joined to other work stays so beside more
pub joined_beside : (more xs old new : List NodeClaim) → IsJoined xs old new → IsJoined xs (more ++ old) (more ++ new)
joined_beside more xs old new joined = record {
  from_new = λ c h. Has-right c more new (joined.from_new c h);
  from_old = λ c h. from_old c (Has-either c more old h);
  only = λ c h. only c (Has-either c more new h);
}
  where
    from_old : (c : NodeClaim) → Has c more ⊎ Has c old → Has c (more ++ new)
    from_old c (inl h) = Has-left c more new h
    from_old c (inr h) = Has-right c more new (joined.from_old c h)

    only : (c : NodeClaim) → Has c more ⊎ Has c new → Has c xs ⊎ Has c (more ++ old)
    only c (inl h) = inr (Has-left c more old h)
    only c (inr h) = go (joined.only c h)
      where
        go : Has c xs ⊎ Has c old → Has c xs ⊎ Has c (more ++ old)
        go (inl i) = inl i
        go (inr i) = inr (Has-right c more old i)

-- the facts of a rule at or above a node's type become work
module _ (g : Grammar) (t : Table) (n j : ℕ) (n_in : n < t.size) (j_in : j < length g.rules)
    (above : is_below g.types (t.type_of n) (slice_index_or g.rules j no_rule).ty ≡ true) (work work' : List NodeClaim)
    (joined : IsJoined (entry_claims g.rules (record { node = n; rule = j; from = 0 })) work work') where
  pub carries_entry : Carries (system_of g) t work t work'
  carries_entry = record {
    more = omega arith;
    type_old = λ k h. refl;
    follows = λ c h. follows_more (system_of g) t work work' joined.from_old c h;
    entered = λ extra source ps w e. (
      w,
      Entered-rework (system_of g) source ps t (extra ++ work) (extra ++ work') w e (λ c h. says extra source ps w e c ((joined_beside extra _ work work' joined).only c h))
          (λ c h. stated _ (by_work c ((joined_beside extra _ work work' joined).from_old c h))),
    );
  }
    where
      in_range : (d : Claim) → InTable t.size (from n d)
      in_range (exists_at p) = n_in
      in_range (same p q) = (n_in, n_in)
      in_range (below p u) = n_in

      says : (extra : List NodeClaim) (source : Source) (ps : List Part) (w : ℕ → Path) → Entered (system_of g) source ps t (extra ++ work) w → (c : NodeClaim) →
          Has c (entry_claims g.rules (record { node = n; rule = j; from = 0 })) ⊎ Has c (extra ++ work) →
          Has c (extra ++ work) ⊎ (InTable t.size c × Closure (system_of g) (Told source) (read w c))
      says extra source ps w e c (inr h) = inl h
      says extra source ps w e c (inl h) =
          let r = Has-of_map (from n) c (slice_index_or g.rules j no_rule).claims (subst (Has c) (claims_here g.rules n j) h) in
          let typed = subst (λ p. Closure (system_of g) (Told source) (below p (t.type_of n))) (append-nil (w n))
          (e.sound.stated_in _ (by_type n n_in (e.live_is n))) in
          let fact = constrained (w n) (slice_index_or g.rules j no_rule).ty r.0 (raised (w n) (t.type_of n) (slice_index_or g.rules j no_rule).ty typed above)
          (rule_of_fact g.rules j r.0 j_in r.1) in
          inr (
            subst (InTable t.size) (sym r.2) (in_range r.0),
            subst (λ d. Closure (system_of g) (Told source) (read w d)) (sym r.2) (subst (Closure (system_of g) (Told source)) (sym (read-from w n r.0)) fact),
          )

  pub entry_says : (c : Claim) → Has c (slice_index_or g.rules j no_rule).claims → Follows (system_of g) t work' (from n c)
  entry_says c h = stated _ (by_work _ (joined.from_new _ (subst (Has (from n c)) (sym (claims_here g.rules n j)) (Has-map (from n) c _ h))))

-- what a node owes enters there
module _ (g : Grammar) (ty : ℕ) (debt : Debt) (is : IsDebt g ty debt) (graph : IsGraph debt.graph) (t t' : Table) (enters : EntersTable debt.graph t t')
    (n : ℕ) (n_in : n < t.size) (under : is_below g.types (t.type_of n) ty ≡ true) (work one two : List NodeClaim)
    (joins : IsJoined (is_same n [] t.size [] ∷ []) work one) (bounded : IsJoined (bound_claims t.size debt.bounds.items) one two) where
  debt_owed : IsOwed (system_of g) t.size debt.graph one two
  debt_owed = record {
    facts = λ k x c h b i. inr (is.constrains k x c h b i);
    introduces = λ k a h i. introduces k a (is.bounds.introduces k a h i);
    rest = bounded.from_old;
    only = λ c h. only c (bounded.only c h);
  }
    where
      introduces : (k : ℕ) (a : GraphArc) →
          Has (record { node = k; ty = (system_of g).introducer a.feat.0 }) debt.bounds.items ⊎ (is_below g.types (type_at debt.graph k) ((system_of g).introducer a.feat.0) ≡ true) →
          Has (is_under (t.size + k) [] ((system_of g).introducer a.feat.0)) two ⊎ (is_below g.types (type_at debt.graph k) ((system_of g).introducer a.feat.0) ≡ true)
      introduces k a (inl h) = inl (bounded.from_new _ (Has-map (λ (b : Bound). is_under (t.size + b.node) [] b.ty) _ debt.bounds.items h))
      introduces k a (inr h) = inr h

      only : (c : NodeClaim) → Has c (bound_claims t.size debt.bounds.items) ⊎ Has c one →
          ((k : ℕ) × (x : ℕ) × (d : Claim) × (k < length debt.graph.types) × (is_below g.types (type_at debt.graph k) x ≡ true) × Has d (facts_in g.rules x) × (c ≡ from (t.size + k) d)) ⊎
          ((k : ℕ) × (a : GraphArc) × (k < length debt.graph.types) × Has a (arcs_at debt.graph k) × (c ≡ is_under (t.size + k) [] ((system_of g).introducer a.feat.0))) ⊎ Has c one
      only c (inr h) = inr (inr h)
      only c (inl h) =
          let r = Has-of_map (λ (b : Bound). is_under (t.size + b.node) [] b.ty) c debt.bounds.items h in
          let b = is.bounds.introduced r.0 r.1 in
          inr (inl (r.0.node, b.0, is.bounds.nodes_in r.0 r.1, b.1, r.2 ∙ ap (λ y. is_under (t.size + r.0.node) [] y) b.2))

  -- what was stated before follows
  stated_before : (d : NodeClaim) → Stated t work d → Follows (system_of g) t' two d
  stated_before _ (by_node k h) = stated _ (by_node k (let i : k < t'.size = omega (arith, enters.size_is, h) in i))
  stated_before _ (by_arc k f m h l e) =
      stated _ (by_arc k f m (let i : k < t'.size = omega (arith, enters.size_is, h) in i) (enters.live_old k h ∙ l) (enters.arc_old k f h ∙ e))
  stated_before _ (by_merge k h) =
      subst (λ x. Follows (system_of g) t' two (is_same k [] x [])) (enters.live_old k h)
      (stated _ (by_merge k (let i : k < t'.size = omega (arith, enters.size_is, h) in i)))
  stated_before _ (by_type k h l) =
      subst (λ x. Follows (system_of g) t' two (is_under k [] x)) (enters.type_old k h)
      (stated _ (by_type k (let i : k < t'.size = omega (arith, enters.size_is, h) in i) (enters.live_old k h ∙ l)))
  stated_before _ (by_work c h) = stated _ (by_work c (bounded.from_old c (joins.from_old c h)))

  pub carries_debt : Carries (system_of g) t work t' two
  carries_debt = record {
    more = omega (arith, enters.size_is);
    type_old = enters.type_old;
    follows = λ c h. Follows-grows (system_of g) t t' work two stated_before c h;
    entered = λ extra source ps w e. (
      extended w t.size (w n) graph.least,
      Entered-beside (system_of g) source (w n) debt.graph graph (told extra source ps w e) t t' enters n [] (extra ++ work) (extra ++ one) (extra ++ two)
          (joined_beside extra _ work one joins) (Owed-beside (system_of g) t.size debt.graph extra one two debt_owed) w ps e n_in (append-nil (w n)),
    );
  }
    where
      told : (extra : List NodeClaim) (source : Source) (ps : List Part) (w : ℕ → Path) → Entered (system_of g) source ps t (extra ++ work) w → (c : Claim) →
          Tells (reader_of debt.graph) c → Closure (system_of g) (Told source) (at (w n) c)
      told extra source ps w e c h = closure_moves (system_of g) (Told (type_source ty)) (Told source) (w n) root c (is.said c h)
        where
          typed : Closure (system_of g) (Told source) (below (w n ++ []) (t.type_of n))
          typed = e.sound.stated_in _ (by_type n n_in (e.live_is n))

          root : (c : Claim) → Told (type_source ty) c → Closure (system_of g) (Told source) (at (w n) c)
          root _ (told_claim c i) = one_claim c i
            where
              one_claim : (c : Claim) → Has c (below [] ty ∷ []) → Closure (system_of g) (Told source) (at (w n) c)
              one_claim _ here = raised (w n ++ []) (t.type_of n) ty typed under
              one_claim c (there i) = elim i [ ]
          root _ (told_part p c i j) = elim i [ ]

  -- what is seen in it from its root follows at the node
  pub debt_stands : IsTable t' → (c : Claim) → Seen (system_of g) (table_of debt.graph) (from 0 c) → Follows (system_of g) t' two (from n c)
  debt_stands ok c h =
      let z : t.size + 0 ≡ t.size = omega arith in
      follows_joined (system_of g) t' two n t.size c (stated _ (by_work _ (bounded.from_old _ (joins.from_new _ here))))
      (subst (λ m. Follows (system_of g) t' two (from m c)) z (seen_stands (system_of g) debt.graph graph t t' enters ok two 0 c graph.numbered.filled h))
