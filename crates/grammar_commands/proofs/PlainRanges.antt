-- What claims in range force is in range, and so is a graph of what they force.
use Rattle.std.specs.Prelude.{ℕ, ◌≡◌, ◌==◌, ◌<◌, ◌≤◌, ◌⊎◌, true, All, Some, List, [], ◌∷◌, ◌++◌, length}
use Rattle.std.proofs.Common.{inl, inr, sym, subst, ◌∙◌, arith}
use Rattle.std.proofs.lemmas.Bool.{cases_lt, eqb-true, or_cases}
use Rattle.std.proofs.lemmas.List.{get_or_default}
use Rattle.std.proofs.lemmas.List.Elements.{All-nil, All-cons, All-head, All-tail}
use Rattle.type_hierarchy.specs.Table.{TypeTable, count_of, completed_count, is_below, is_set_below}
use Rattle.type_hierarchy.specs.Laws.{HasTypeLaws}
use Rattle.type_hierarchy.proofs.LawLemmas.{below_sets, below_string, set_below_in}
use Rattle.fs_model.specs.Claims.{Path, Claim, exists_at, same, below, at, Has}
use Rattle.fs_model.specs.Closure.{Closure, given_claim, same_exists, below_exists, prefix, same_refl, same_sym, same_trans, same_extend, same_type, introduced, met, raised, topped, constrained}
use Rattle.fs_model.specs.Sources.{IsGraphOf}
use Rattle.fs_model.specs.Table.{walk}
use Rattle.fs_model.proofs.TableLemmas.{walk-append, walk-step}
use Rattle.fs_graph.specs.declared.graph.GraphArc.{GraphArc}
use Rattle.fs_graph.specs.GraphMap.{GraphMap, IsGraph, table_of, type_at, arcs_at, reader_of}
use Rattle.fs_closing.specs.Rules.{Grammar, system_of, IsClaimIn, IsGrammar}
use Rattle.fs_closing.specs.NodeSteps.{IsGraphIn}
use Rattle.fs_closing.proofs.StepLemmas.{facts_of_rule}
use Rattle.fs_closing.proofs.BesideLemmas.{rises_found}

-- what is above a type of the table is one
below_in : (types : TypeTable) → completed_count types ≤ count_of types → (t u : ℕ) → t < count_of types → is_below types t u ≡ true → u < count_of types
below_in types more t u h e = go (cases_lt t (length types.sets))
  where
    go : (t < length types.sets) ⊎ (length types.sets ≤ t) → u < count_of types
    go (inl k) = let i = set_below_in types t u (sym (below_sets types t u k) ∙ e) in omega arith
    go (inr k) = which (or_cases (t == u) _ (sym (below_string types t u k) ∙ e))
      where
        which : ((t == u) ≡ true) ⊎ (is_set_below types types.string_type u ≡ true) → u < count_of types
        which (inl m) = let i = eqb-true t u m in omega arith
        which (inr m) = let i = set_below_in types types.string_type u m in omega arith

module _ {A : Type 0} (P : A → Type 0) where
  left_all : (xs ys : List A) → All P (xs ++ ys) → All P xs
  left_all [] ys h = All-nil P
  left_all (x ∷ xs) ys h = All-cons P x xs (All-head P x (xs ++ ys) h) (left_all xs ys (All-tail P x (xs ++ ys) h))

  right_all : (xs ys : List A) → All P (xs ++ ys) → All P ys
  right_all [] ys h = h
  right_all (x ∷ xs) ys h = right_all xs ys (All-tail P x (xs ++ ys) h)

  both_all : (xs ys : List A) → All P xs → All P ys → All P (xs ++ ys)
  both_all [] ys h k = k
  both_all (x ∷ xs) ys h k = All-cons P x (xs ++ ys) (All-head P x xs h) (both_all xs ys (All-tail P x xs h) k)

module _ (g : Grammar) where
  abbrev IsFeat : ℕ → Type 0
  IsFeat f = f < length g.introducers

  abbrev IsIn : Claim → Type 0
  IsIn = IsClaimIn (count_of g.types) (length g.introducers)

  -- a claim in range, moved to a path in range
  moved_in : (p : Path) (c : Claim) → All IsFeat p → IsIn c → IsIn (at p c)
  moved_in p (exists_at q) h k = both_all IsFeat p q h k
  moved_in p (same q r) h k = (both_all IsFeat p q h k.0, both_all IsFeat p r h k.1)
  moved_in p (below q t) h k = (both_all IsFeat p q h k.0, k.1)

  module _ (is : IsGrammar g) (laws : HasTypeLaws g.types) (counts : completed_count g.types ≤ count_of g.types) {given : Claim → Type 0} (within : (c : Claim) → given c → IsIn c) where
    fact_in : (t : ℕ) (c : Claim) → Has c ((system_of g).facts_of t) → IsIn c
    fact_in t c h = let r = facts_of_rule g.rules t c h in is.claims r.0 c r.1 r.3

    closed_in : (c : Claim) → Closure (system_of g) given c → IsIn c
    closed_in _ (given_claim c h) = within c h
    closed_in _ (same_exists p q a) = (closed_in _ a).0
    closed_in _ (below_exists p t a) = (closed_in _ a).0
    closed_in _ (prefix p q a) = left_all IsFeat p q (closed_in _ a)
    closed_in _ (same_refl p a) = (closed_in _ a, closed_in _ a)
    closed_in _ (same_sym p q a) = ((closed_in _ a).1, (closed_in _ a).0)
    closed_in _ (same_trans p q r a b) = ((closed_in _ a).0, (closed_in _ b).1)
    closed_in _ (same_extend p q r a b) = (closed_in _ b, both_all IsFeat q r (closed_in _ a).1 (right_all IsFeat p r (closed_in _ b)))
    closed_in _ (same_type p q t a b) = ((closed_in _ a).1, (closed_in _ b).1)
    closed_in _ (introduced p f a) =
        let h : All IsFeat (p ++ f ∷ []) = closed_in _ a in
        (left_all IsFeat p (f ∷ []) h, is.introducers f (All-head IsFeat f [] (right_all IsFeat p (f ∷ []) h)))
    closed_in _ (met p t u m a b e) = ((closed_in _ a).0, laws.meet_in t u m (closed_in _ a).1 (closed_in _ b).1 e)
    closed_in _ (raised p t u a e) = ((closed_in _ a).0, below_in g.types counts t u (closed_in _ a).1 e)
    closed_in _ (topped p a) = (closed_in _ a, is.some)
    closed_in _ (constrained p t c a h) = moved_in p c (closed_in _ a).0 (fact_in t c h)

    -- each node is at a path that the closure claims, with its type, and each arc leads to one
    pub graph_in : (graph : GraphMap) → IsGraph graph → IsGraphOf (system_of g) given (reader_of graph) → IsGraphIn (count_of g.types) (length g.introducers) graph
    graph_in graph shape structure = record {
      types_in = λ i d h. subst (λ x. x < count_of g.types) (get_or_default graph.types i 0 d h) (type_in i h);
      feats_in = feats_in;
    }
      where
        type_in : (i : ℕ) → i < length graph.types → type_at graph i < count_of g.types
        type_in i h =
            let leads = (shape.numbered.is_least i h).leads in
            (closed_in (below (shape.least i) (type_at graph i)) (structure.types_there (shape.least i) i leads)).1

        feats_in : (i : ℕ) (a : GraphArc) → i < length graph.types → Has a (arcs_at graph i) → a.feat.0 < length g.introducers
        feats_in i a h has =
            let p = shape.least i in
            let f = a.feat.0 in
            let leads = (shape.numbered.is_least i h).leads in
            let found = rises_found (arcs_at graph i) a (shape.rises i h) has in
            let one : walk (table_of graph) 0 (p ++ f ∷ []) ≡ Some a.to.0 =
            walk-append (table_of graph) shape.numbered.table 0 i p (f ∷ []) leads ∙ walk-step (table_of graph) i a.to.0 f [] found in
            let all : All IsFeat (p ++ f ∷ []) = closed_in (exists_at (p ++ f ∷ [])) ((structure.paths (p ++ f ∷ [])).1 (a.to.0, one)) in
            All-head IsFeat f [] (right_all IsFeat p (f ∷ []) all)
