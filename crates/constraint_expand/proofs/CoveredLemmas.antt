-- Types that nothing defines have constraints wherever the types that are defined have.
use Rattle.std.proofs.Common.{ℕ, ◌≡◌, ◌<◌, ◌≤◌, ◌⊎◌, inl, inr, true, List, [], ◌∷◌, ◌++◌, length, slice_index_or, refl, sym, ◌∙◌, ap, subst, arith}
use Rattle.fs_model.specs.Claims.{Path, Claim, exists_at, same, below, Has, here}
use Rattle.fs_model.specs.Closure.{Closure, given_claim, same_exists, below_exists, prefix, same_refl, same_sym, same_trans, same_extend, same_type, introduced, met, raised, topped, constrained, IsConsistent}
use Rattle.fs_model.specs.Laws.{ClosureGrows, ConsistencyFalls}
use Rattle.fs_model.specs.Sources.{Told, told_claim, told_part}
use Rattle.type_hierarchy.specs.Laws.{HasTypeLaws}
use Rattle.type_hierarchy.specs.Table.{TypeTable, is_below}
use Rattle.fs_unify.specs.Rules.{Grammar, facts_in, system_of}
use Rattle.fs_unify.specs.Given.{facts_source}
use Rattle.fs_unify.specs.Limits.{HasMorePaths}
use Rattle.grammar_files.specs.Placings.{PlacedTree}
use Rattle.constraint_expand.specs.Conditions.{IsDefined, HasLesserBelow, HasNoneAbove}
use Rattle.constraint_expand.specs.Systems.{constraint_claims}
use Rattle.constraint_expand.specs.Shaped.{HasNoConstraint, AreFactsDefined}
use Rattle.type_facts.proofs.ListLemmas.{Has-one}

empty_front : (p q : Path) → p ++ q ≡ [] → p ≡ []
empty_front [] q e = refl
empty_front (f ∷ p) q e = absurd (let z : f ∷ (p ++ q) ≡ [] = e in cc)

empty_both : (p r : Path) → p ≡ [] → r ≡ [] → p ++ r ≡ []
empty_both p r e f = ap (λ x. x ++ r) e ∙ f

empty_back : (p r : Path) → p ≡ [] → p ++ r ≡ [] → r ≡ []
empty_back p r e f = sym (ap (λ x. x ++ r) e) ∙ f

no_feature : (p : Path) (f : ℕ) → p ++ f ∷ [] ≡ [] → ⊥
no_feature [] f e = let z : f ∷ [] ≡ [] = e in cc
no_feature (g ∷ p) f e = let z : g ∷ (p ++ f ∷ []) ≡ [] = e in cc

-- what a type that nothing speaks of claims stays at the root
abbrev pub StaysAtRoot : TypeTable → ℕ → Claim → Type 0
StaysAtRoot types t (exists_at p) = p ≡ []
StaysAtRoot types t (same p q) = (p ≡ []) × (q ≡ [])
StaysAtRoot types t (below p u) = (p ≡ []) × (is_below types t u ≡ true)

module _ (g : Grammar) (t : ℕ) (laws : HasTypeLaws g.types) (bare : (u : ℕ) (c : Claim) → is_below g.types t u ≡ true → Has c (facts_in g.rules u) → ⊥) where
  given_stays : (c : Claim) → Told (facts_source (constraint_claims t)) c → StaysAtRoot g.types t c
  given_stays c (told_claim _ h) = subst (StaysAtRoot g.types t) (sym (Has-one c (below [] t) h)) (refl, laws.reflexive t)
  given_stays _ (told_part part c h k) = elim h [ ]

  stays : (c : Claim) → Closure (system_of g) (Told (facts_source (constraint_claims t))) c → StaysAtRoot g.types t c
  stays _ (given_claim c h) = given_stays c h
  stays _ (same_exists p q h) = (stays (same p q) h).0
  stays _ (below_exists p u h) = (stays (below p u) h).0
  stays _ (prefix p q h) = empty_front p q (stays (exists_at (p ++ q)) h)
  stays _ (same_refl p h) = (stays (exists_at p) h, stays (exists_at p) h)
  stays _ (same_sym p q h) = let r = stays (same p q) h in (r.1, r.0)
  stays _ (same_trans p q r h k) = ((stays (same p q) h).0, (stays (same q r) k).1)
  stays _ (same_extend p q r h k) =
      let e = stays (same p q) h in
      let rest = empty_back p r e.0 (stays (exists_at (p ++ r)) k) in
      (empty_both p r e.0 rest, empty_both q r e.1 rest)
  stays _ (same_type p q u h k) = ((stays (same p q) h).1, (stays (below p u) k).1)
  stays _ (introduced p f h) = absurd (no_feature p f (stays (exists_at (p ++ f ∷ [])) h))
  stays _ (met p u v m h k e) = ((stays (below p u) h).0, laws.meet_greatest u v m t e (stays (below p u) h).1 (stays (below p v) k).1)
  stays _ (raised p u v h e) = ((stays (below p u) h).0, laws.transitive t u v (stays (below p u) h).1 e)
  stays _ (topped p h) = (stays (exists_at p) h, laws.below_top t)
  stays _ (constrained p u c h k) = absurd (bare u c (stays (below p u) h).1 k)

  pub bare_consistent : IsConsistent (system_of g) (Told (facts_source (constraint_claims t)))
  bare_consistent =
      record {
        typed = λ p u v h k. laws.meet_exists u v t (stays (below p u) h).1 (stays (below p v) k).1;
        bounded = λ p h. subst (λ q. length q ≤ g.path_limit) (sym (stays (exists_at p) h)) (omega arith);
      }

  -- it has no path but that of the root
  pub bare_few : (limit : ℕ) → HasMorePaths (system_of g) (Told (facts_source (constraint_claims t))) limit → ⊥
  bare_few limit m =
      let more = m.more in
      let first = stays (exists_at (slice_index_or m.paths 0 [])) (m.exist 0 (omega (arith, more))) in
      let second = stays (exists_at (slice_index_or m.paths 1 [])) (m.exist 1 (omega (arith, more))) in
      m.apart 0 1 (omega arith) (omega (arith, more)) (first ∙ sym second)

-- a type below one without constraint has none
pub constraint_falls : (g : Grammar) (limit : ℕ) → ClosureGrows → ConsistencyFalls → (t u : ℕ) → is_below g.types u t ≡ true → HasNoConstraint g limit t → HasNoConstraint g limit u
constraint_falls g limit grows falls t u low = go
  where
    one : Closure (system_of g) (Told (facts_source (constraint_claims u))) (below [] t)
    one = raised [] u t (given_claim (below [] u) (told_claim (below [] u) here)) low

    follows : (c : Claim) → Told (facts_source (constraint_claims t)) c → Closure (system_of g) (Told (facts_source (constraint_claims u))) c
    follows c (told_claim _ h) = subst (Closure (system_of g) (Told (facts_source (constraint_claims u)))) (sym (Has-one c (below [] t) h)) one
    follows _ (told_part part c h k) = elim h [ ]

    go : HasNoConstraint g limit t → HasNoConstraint g limit u
    go (inl none) = inl (λ consistent. none (falls (system_of g) (facts_source (constraint_claims t)) (facts_source (constraint_claims u)) (λ c h. follows c h) consistent))
    go (inr m) = inr (record {
      paths = m.paths;
      apart = m.apart;
      exist = λ i h.
          grows (system_of g) (facts_source (constraint_claims t)) (facts_source (constraint_claims u)) (λ c k. follows c k) (exists_at (slice_index_or m.paths i [])) (m.exist i h);
      more = m.more;
    })

-- the first type without constraint is defined
pub first_is_defined : (g : Grammar) (limit : ℕ) (ps : List PlacedTree) (t : ℕ) → ClosureGrows → ConsistencyFalls → HasTypeLaws g.types → AreFactsDefined g ps →
    (IsDefined g.types ps t ⊎ (HasLesserBelow g.types ps t ⊎ HasNoneAbove g.types ps t)) → HasNoConstraint g limit t → ((u : ℕ) → u < t → HasNoConstraint g limit u → ⊥) → IsDefined g.types ps t
first_is_defined g limit ps t grows falls laws facts (inl d) none before = d
first_is_defined g limit ps t grows falls laws facts (inr (inl (u, d, lt, low))) none before = absurd (before u lt (constraint_falls g limit grows falls t u low none))
first_is_defined g limit ps t grows falls laws facts (inr (inr above)) (inl none) before = absurd (none (bare_consistent g t laws (λ u c low h. above u (facts u c h) low)))
first_is_defined g limit ps t grows falls laws facts (inr (inr above)) (inr more) before = absurd (bare_few g t laws (λ u c low h. above u (facts u c h) low) limit more)
