-- What is forced by what is in range is in range, so a verdict on it tells types and features of the grammar.
use Rattle.std.specs.Prelude.{ℕ, ◌≡◌, ◌==◌, ◌<◌, ◌≤◌, ◌⊎◌, true, All, Option, Some, None, IfSome, option_map, List, [], ◌∷◌, ◌++◌, length}
use Rattle.std.proofs.Common.{inl, inr, sym, subst, ◌∙◌, arith}
use Rattle.std.proofs.lemmas.Bool.{cases_lt, eqb-true, or_cases}
use Rattle.std.proofs.lemmas.List.Elements.{All-nil, All-cons, All-head, All-tail}
use Rattle.type_hierarchy.specs.Table.{TypeTable, count_of, completed_count, is_below, is_set_below}
use Rattle.type_hierarchy.specs.Laws.{HasTypeLaws}
use Rattle.type_hierarchy.proofs.LawLemmas.{below_sets, below_string, set_below_in}
use Rattle.fs_model.specs.Claims.{Path, Claim, exists_at, same, below, at, Has}
use Rattle.fs_model.specs.Sources.{Told, told_claim, told_part}
use Rattle.fs_graph.specs.declared.facts.Fact.{Fact}
use Rattle.fs_closing.specs.Rules.{Grammar, system_of, IsClaimIn, IsGrammar}
use Rattle.fs_closing.proofs.StepLemmas.{facts_of_rule}
use Rattle.forced_types.specs.declared.placed.Verdict.{Verdict as Answer}
use Rattle.forced_types.specs.Views.{source_of_facts, verdict_of, AreFactsIn}
use Rattle.forced_types.specs.Forced.{Forced, IsPathIn, given_claim, given_front, same_exists, below_exists, prefix, same_refl, same_sym, same_trans, same_extend, same_type, introduced, met, raised, topped, constrained, constrained_front}
use Rattle.forced_types.specs.Verdicts.{Verdict, Fits, Clash, TooLong, IsVerdict, IsVerdictIn}
use Rattle.forced_types.specs.Limits.{IsVerdictWithin}

-- what is above a type of the table is one
below_in : (types : TypeTable) → completed_count types ≤ count_of types → (t u : ℕ) → t < count_of types → is_below types t u ≡ true → u < count_of types
below_in types more t u h e = go (cases_lt t (length types.sets))
  where
    go : (t < length types.sets) ⊎ (length types.sets ≤ t) → u < count_of types
    go (inl k) = let i = set_below_in types t u (sym (below_sets types t u k) ∙ e) in omega arith
    go (inr k) = which (or_cases (t == u) _ (sym (below_string types t u k) ∙ e))
      where
        which : ((t == u) ≡ true) ⊎ (is_set_below types types.string_type u ≡ true) → u < count_of types
        which (inl m) = let i = eqb-true t u m in omega arith
        which (inr m) = let i = set_below_in types types.string_type u m in omega arith

module _ {A : Type 0} (P : A → Type 0) where
  left_all : (xs ys : List A) → All P (xs ++ ys) → All P xs
  left_all [] ys h = All-nil P
  left_all (x ∷ xs) ys h = All-cons P x xs (All-head P x (xs ++ ys) h) (left_all xs ys (All-tail P x (xs ++ ys) h))

  right_all : (xs ys : List A) → All P (xs ++ ys) → All P ys
  right_all [] ys h = h
  right_all (x ∷ xs) ys h = right_all xs ys (All-tail P x (xs ++ ys) h)

  both_all : (xs ys : List A) → All P xs → All P ys → All P (xs ++ ys)
  both_all [] ys h k = k
  both_all (x ∷ xs) ys h k = All-cons P x (xs ++ ys) (All-head P x xs h) (both_all xs ys (All-tail P x xs h) k)

module _ (g : Grammar) where
  abbrev IsFeat : ℕ → Type 0
  IsFeat f = f < length g.introducers

  abbrev IsIn : Claim → Type 0
  IsIn = IsClaimIn (count_of g.types) (length g.introducers)

  path_in : (c : Claim) (x : Path) → IsIn c → IsPathIn x c → All IsFeat x
  path_in (exists_at p) x h e = subst (All IsFeat) e h
  path_in (same p q) x h (inl e) = subst (All IsFeat) e h.0
  path_in (same p q) x h (inr e) = subst (All IsFeat) e h.1
  path_in (below p t) x h e = subst (All IsFeat) e h.0

  -- a claim in range, moved to a path in range
  pub moved_in : (p : Path) (c : Claim) → All IsFeat p → IsIn c → IsIn (at p c)
  moved_in p (exists_at q) h k = both_all IsFeat p q h k
  moved_in p (same q r) h k = (both_all IsFeat p q h k.0, both_all IsFeat p r h k.1)
  moved_in p (below q t) h k = (both_all IsFeat p q h k.0, k.1)

  module _ (is : IsGrammar g) (laws : HasTypeLaws g.types) (counts : completed_count g.types ≤ count_of g.types) where
    fact_in : (t : ℕ) (c : Claim) → Has c ((system_of g).facts_of t) → IsIn c
    fact_in t c h = let r = facts_of_rule g.rules t c h in is.claims r.0 c r.1 r.3

    module _ (most : ℕ) {given : Claim → Type 0} (within : (c : Claim) → given c → IsIn c) where
      forced_in : (c : Claim) → Forced (system_of g) most given c → IsIn c
      forced_in _ (given_claim c h w) = within c h
      forced_in _ (given_front c p q h i l) = left_all IsFeat p q (path_in c (p ++ q) (within c h) i)
      forced_in _ (same_exists p q a) = (forced_in _ a).0
      forced_in _ (below_exists p t a) = (forced_in _ a).0
      forced_in _ (prefix p q a) = left_all IsFeat p q (forced_in _ a)
      forced_in _ (same_refl p a) = (forced_in _ a, forced_in _ a)
      forced_in _ (same_sym p q a) = ((forced_in _ a).1, (forced_in _ a).0)
      forced_in _ (same_trans p q r a b) = ((forced_in _ a).0, (forced_in _ b).1)
      forced_in _ (same_extend p q r a b l) = (forced_in _ b, both_all IsFeat q r (forced_in _ a).1 (right_all IsFeat p r (forced_in _ b)))
      forced_in _ (same_type p q t a b) = ((forced_in _ a).1, (forced_in _ b).1)
      forced_in _ (introduced p f a) =
          let h : All IsFeat (p ++ f ∷ []) = forced_in _ a in
          (left_all IsFeat p (f ∷ []) h, is.introducers f (All-head IsFeat f [] (right_all IsFeat p (f ∷ []) h)))
      forced_in _ (met p t u m a b e) = ((forced_in _ a).0, laws.meet_in t u m (forced_in _ a).1 (forced_in _ b).1 e)
      forced_in _ (raised p t u a e) = ((forced_in _ a).0, below_in g.types counts t u (forced_in _ a).1 e)
      forced_in _ (topped p a) = (forced_in _ a, is.some)
      forced_in _ (constrained p t c a h w) = moved_in p c (forced_in _ a).0 (fact_in t c h)
      forced_in _ (constrained_front p t c q r a h i l) = left_all IsFeat q r (path_in (at p c) (q ++ r) (moved_in p c (forced_in _ a).0 (fact_in t c h)) i)

    pub verdict_in : {given : Claim → Type 0} → ((c : Claim) → given c → IsIn c) → (v : Verdict) → IsVerdict (system_of g) given v → IsVerdictIn (length g.introducers) (count_of g.types) v
    verdict_in within Fits h = tt
    verdict_in within (Clash p t u) h =
        let a = forced_in _ within (below p t) h.clashes.first in
        let b = forced_in _ within (below p u) h.clashes.second in
        (a.0, a.1, b.1)
    verdict_in within (TooLong p) h = forced_in _ within (exists_at p) h.1.long.forced

pub facts_told_in : (g : Grammar) (facts : List Fact) → AreFactsIn g facts → (c : Claim) → Told (source_of_facts facts) c → IsClaimIn (count_of g.types) (length g.introducers) c
facts_told_in g facts h _ (told_claim c x) = h c x
facts_told_in g facts h _ (told_part part c x tells) = elim x [ ]

pub answer_in : (g : Grammar) → IsGrammar g → HasTypeLaws g.types → completed_count g.types ≤ count_of g.types → (facts : List Fact) → AreFactsIn g facts → (limit : ℕ) (o : Option Answer) →
    IsVerdictWithin (system_of g) (Told (source_of_facts facts)) limit (option_map verdict_of o) → IfSome o (λ v. IsVerdictIn (length g.introducers) (count_of g.types) (verdict_of v))
answer_in g is laws counts facts within limit None h = tt
answer_in g is laws counts facts within limit (Some v) h = verdict_in g is laws counts (facts_told_in g facts within) (verdict_of v) h.0
