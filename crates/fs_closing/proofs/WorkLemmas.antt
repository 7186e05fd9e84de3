-- Tasks that are pushed and popped, as claims.
use Rattle.std.proofs.Common.{◌≡◌, ◌+◌, ◌⊎◌, inl, inr, Option, Some, None, List, [], ◌∷◌, ◌++◌, length, map, refl, sym, ◌∙◌, ap, subst, arith}
use Rattle.std.specs.Prelude.{flat_map, Vec, vec_len, MatchOption}
use Rattle.std.specs.Option.{option_to_list}
use Rattle.std.specs.Global.{Global}
use Rattle.fs_model.specs.Claims.{Has, here}
use Rattle.fs_model.specs.Table.{NodeClaim}
use Rattle.fs_closing.specs.declared.tasks.Pair.{Pair}
use Rattle.fs_closing.specs.declared.tasks.Bound.{Bound}
use Rattle.fs_closing.specs.declared.tasks.Entry.{Entry}
use Rattle.fs_closing.specs.declared.tasks.Tasks.{Tasks}
use Rattle.fs_closing.specs.Rules.{Rule}
use Rattle.fs_closing.specs.Joined.{IsJoined}
use Rattle.fs_closing.specs.Work.{pair_claim, bound_claim, entry_claims, TakesPair, TakesBound, TakesEntry}
use Rattle.fs_closing.proofs.HasLemmas.{Has-left, Has-right, Has-either, Has-map, Has-of_map, Has-one, Has-flat, Has-of_flat}

-- the claims of the three kinds of tasks
abbrev pub claims_from : List Rule → List Pair → List Bound → List Entry → List NodeClaim
claims_from rules ps bs es = map pair_claim ps ++ (map bound_claim bs ++ flat_map (entry_claims rules) es)

module _ (rules : List Rule) (ps : List Pair) (bs : List Bound) (es : List Entry) where
  of_pair : (x : Pair) → Has x ps → Has (pair_claim x) (claims_from rules ps bs es)
  of_pair x h = Has-left _ (map pair_claim ps) _ (Has-map pair_claim x ps h)

  of_bound : (x : Bound) → Has x bs → Has (bound_claim x) (claims_from rules ps bs es)
  of_bound x h = Has-right _ (map pair_claim ps) _ (Has-left _ (map bound_claim bs) _ (Has-map bound_claim x bs h))

  of_entry : (x : Entry) (c : NodeClaim) → Has x es → Has c (entry_claims rules x) → Has c (claims_from rules ps bs es)
  of_entry x c h i = Has-right _ (map pair_claim ps) _ (Has-right _ (map bound_claim bs) _ (Has-flat (entry_claims rules) x c es h i))

  -- where a claim comes from
  which : {Y : Type 0} (c : NodeClaim) → Has c (claims_from rules ps bs es) → ((x : Pair) → Has x ps → c ≡ pair_claim x → Y) →
      ((x : Bound) → Has x bs → c ≡ bound_claim x → Y) → ((x : Entry) → Has x es → Has c (entry_claims rules x) → Y) → Y
  which {Y} c h pair bound entry = go (Has-either c (map pair_claim ps) _ h)
    where
      more : Has c (map bound_claim bs) ⊎ Has c (flat_map (entry_claims rules) es) → Y
      more (inl a) = let r = Has-of_map bound_claim c bs a in bound r.0 r.1 r.2
      more (inr a) = let r = Has-of_flat (entry_claims rules) c es a in entry r.0 r.1 r.2

      go : Has c (map pair_claim ps) ⊎ Has c (map bound_claim bs ++ flat_map (entry_claims rules) es) → Y
      go (inl a) = let r = Has-of_map pair_claim c ps a in pair r.0 r.1 r.2
      go (inr a) = more (Has-either c (map bound_claim bs) _ a)

-- one more of each kind
pub pair_joined : (rules : List Rule) (ps : List Pair) (bs : List Bound) (es : List Entry) (x : Pair) →
    IsJoined (pair_claim x ∷ []) (claims_from rules ps bs es) (claims_from rules (ps ++ x ∷ []) bs es)
pair_joined rules ps bs es x = record {
  from_new = λ c h. subst (λ y. Has y (claims_from rules (ps ++ x ∷ []) bs es)) (sym (Has-one c _ h))
      (of_pair rules (ps ++ x ∷ []) bs es x (Has-right x ps _ here));
  from_old = λ c h. which rules ps bs es c h
      (λ y i e. subst (λ z. Has z (claims_from rules (ps ++ x ∷ []) bs es)) (sym e) (of_pair rules (ps ++ x ∷ []) bs es y (Has-left y ps _ i)))
      (λ y i e. subst (λ z. Has z (claims_from rules (ps ++ x ∷ []) bs es)) (sym e) (of_bound rules (ps ++ x ∷ []) bs es y i))
      (λ y i j. of_entry rules (ps ++ x ∷ []) bs es y c i j);
  only = λ c h. which rules (ps ++ x ∷ []) bs es c h
      (λ y i e. pair c y e (Has-either y ps _ i))
      (λ y i e. inr (subst (λ z. Has z (claims_from rules ps bs es)) (sym e) (of_bound rules ps bs es y i)))
      (λ y i j. inr (of_entry rules ps bs es y c i j));
}
  where
    pair : (c : NodeClaim) (y : Pair) → c ≡ pair_claim y → Has y ps ⊎ Has y (x ∷ []) → Has c (pair_claim x ∷ []) ⊎ Has c (claims_from rules ps bs es)
    pair c y e (inl i) = inr (subst (λ z. Has z (claims_from rules ps bs es)) (sym e) (of_pair rules ps bs es y i))
    pair c y e (inr i) =
        inl (subst (λ z. Has z (pair_claim x ∷ [])) (sym e) (subst (λ z. Has (pair_claim z) (pair_claim x ∷ [])) (sym (Has-one y x i)) here))

pub bound_joined : (rules : List Rule) (ps : List Pair) (bs : List Bound) (es : List Entry) (x : Bound) →
    IsJoined (bound_claim x ∷ []) (claims_from rules ps bs es) (claims_from rules ps (bs ++ x ∷ []) es)
bound_joined rules ps bs es x = record {
  from_new = λ c h. subst (λ y. Has y (claims_from rules ps (bs ++ x ∷ []) es)) (sym (Has-one c _ h))
      (of_bound rules ps (bs ++ x ∷ []) es x (Has-right x bs _ here));
  from_old = λ c h. which rules ps bs es c h
      (λ y i e. subst (λ z. Has z (claims_from rules ps (bs ++ x ∷ []) es)) (sym e) (of_pair rules ps (bs ++ x ∷ []) es y i))
      (λ y i e. subst (λ z. Has z (claims_from rules ps (bs ++ x ∷ []) es)) (sym e) (of_bound rules ps (bs ++ x ∷ []) es y (Has-left y bs _ i)))
      (λ y i j. of_entry rules ps (bs ++ x ∷ []) es y c i j);
  only = λ c h. which rules ps (bs ++ x ∷ []) es c h
      (λ y i e. inr (subst (λ z. Has z (claims_from rules ps bs es)) (sym e) (of_pair rules ps bs es y i)))
      (λ y i e. bound c y e (Has-either y bs _ i))
      (λ y i j. inr (of_entry rules ps bs es y c i j));
}
  where
    bound : (c : NodeClaim) (y : Bound) → c ≡ bound_claim y → Has y bs ⊎ Has y (x ∷ []) → Has c (bound_claim x ∷ []) ⊎ Has c (claims_from rules ps bs es)
    bound c y e (inl i) = inr (subst (λ z. Has z (claims_from rules ps bs es)) (sym e) (of_bound rules ps bs es y i))
    bound c y e (inr i) =
        inl (subst (λ z. Has z (bound_claim x ∷ [])) (sym e) (subst (λ z. Has (bound_claim z) (bound_claim x ∷ [])) (sym (Has-one y x i)) here))

pub entry_joined : (rules : List Rule) (ps : List Pair) (bs : List Bound) (es : List Entry) (x : Entry) →
    IsJoined (entry_claims rules x) (claims_from rules ps bs es) (claims_from rules ps bs (es ++ x ∷ []))
entry_joined rules ps bs es x = record {
  from_new = λ c h. of_entry rules ps bs (es ++ x ∷ []) x c (Has-right x es _ here) h;
  from_old = λ c h. which rules ps bs es c h
      (λ y i e. subst (λ z. Has z (claims_from rules ps bs (es ++ x ∷ []))) (sym e) (of_pair rules ps bs (es ++ x ∷ []) y i))
      (λ y i e. subst (λ z. Has z (claims_from rules ps bs (es ++ x ∷ []))) (sym e) (of_bound rules ps bs (es ++ x ∷ []) y i))
      (λ y i j. of_entry rules ps bs (es ++ x ∷ []) y c (Has-left y es _ i) j);
  only = λ c h. which rules ps bs (es ++ x ∷ []) c h
      (λ y i e. inr (subst (λ z. Has z (claims_from rules ps bs es)) (sym e) (of_pair rules ps bs es y i)))
      (λ y i e. inr (subst (λ z. Has z (claims_from rules ps bs es)) (sym e) (of_bound rules ps bs es y i)))
      (λ y i j. entry c y j (Has-either y es _ i));
}
  where
    entry : (c : NodeClaim) (y : Entry) → Has c (entry_claims rules y) → Has y es ⊎ Has y (x ∷ []) → Has c (entry_claims rules x) ⊎ Has c (claims_from rules ps bs es)
    entry c y j (inl i) = inr (of_entry rules ps bs es y c i j)
    entry c y j (inr i) = inl (subst (λ z. Has c (entry_claims rules z)) (Has-one y x i) j)

pub nil_of : {X : Type 0} (xs : List X) → length xs ≡ 0 → xs ≡ []
nil_of [] e = refl
nil_of (x ∷ xs) e = absurd (omega arith)

pub nil_append : {X : Type 0} (xs : List X) → xs ++ [] ≡ xs
nil_append [] = refl
nil_append (x ∷ xs) = ap (λ l. x ∷ l) (nil_append xs)

pub pair_taken : (old : Tasks) (rest : Vec Pair Global) (o : Option Pair) → old.pairs.items ≡ rest.items ++ option_to_list o →
    MatchOption o ((vec_len old.pairs ≡ 0) × (vec_len rest ≡ 0)) (λ _. vec_len rest + 1 ≡ vec_len old.pairs) → TakesPair old (record old { pairs = rest }) o
pair_taken old rest None e cases = (
  nil_of old.pairs.items (omega (arith, cases.0, old.pairs.ok)),
  record { pairs = sym (nil_append rest.items) ∙ sym e; bounds = refl; entries = refl },
)
pair_taken old rest (Some x) e cases = (
  record {
    work = λ rules. subst (λ l. IsJoined (pair_claim x ∷ []) (claims_from rules rest.items old.bounds.items old.entries.items) (claims_from rules l old.bounds.items old.entries.items)) (sym e) (pair_joined rules rest.items old.bounds.items old.entries.items x);
    ready = λ size types rules r. record {
      pairs = λ y h. r.pairs y (subst (Has y) (sym e) (Has-left y rest.items (x ∷ []) h));
      bounds = r.bounds;
      entries = r.entries;
    };
  },
  subst (Has x) (sym e) (Has-right x rest.items (x ∷ []) here),
)

pub bound_taken : (old : Tasks) (rest : Vec Bound Global) (o : Option Bound) → old.bounds.items ≡ rest.items ++ option_to_list o →
    MatchOption o ((vec_len old.bounds ≡ 0) × (vec_len rest ≡ 0)) (λ _. vec_len rest + 1 ≡ vec_len old.bounds) → TakesBound old (record old { bounds = rest }) o
bound_taken old rest None e cases = (
  nil_of old.bounds.items (omega (arith, cases.0, old.bounds.ok)),
  record { bounds = sym (nil_append rest.items) ∙ sym e; pairs = refl; entries = refl },
)
bound_taken old rest (Some x) e cases = (
  record {
    work = λ rules. subst (λ l. IsJoined (bound_claim x ∷ []) (claims_from rules old.pairs.items rest.items old.entries.items) (claims_from rules old.pairs.items l old.entries.items)) (sym e) (bound_joined rules old.pairs.items rest.items old.entries.items x);
    ready = λ size types rules r. record {
      bounds = λ y h. r.bounds y (subst (Has y) (sym e) (Has-left y rest.items (x ∷ []) h));
      pairs = r.pairs;
      entries = r.entries;
    };
  },
  subst (Has x) (sym e) (Has-right x rest.items (x ∷ []) here),
)

pub entry_taken : (old : Tasks) (rest : Vec Entry Global) (o : Option Entry) → old.entries.items ≡ rest.items ++ option_to_list o →
    MatchOption o ((vec_len old.entries ≡ 0) × (vec_len rest ≡ 0)) (λ _. vec_len rest + 1 ≡ vec_len old.entries) → TakesEntry old (record old { entries = rest }) o
entry_taken old rest None e cases = (
  nil_of old.entries.items (omega (arith, cases.0, old.entries.ok)),
  record { entries = sym (nil_append rest.items) ∙ sym e; pairs = refl; bounds = refl },
)
entry_taken old rest (Some x) e cases = (
  record {
    work = λ rules. subst (λ l. IsJoined (entry_claims rules x) (claims_from rules old.pairs.items old.bounds.items rest.items) (claims_from rules old.pairs.items old.bounds.items l)) (sym e) (entry_joined rules old.pairs.items old.bounds.items rest.items x);
    ready = λ size types rules r. record {
      entries = λ y h. r.entries y (subst (Has y) (sym e) (Has-left y rest.items (x ∷ []) h));
      pairs = r.pairs;
      bounds = r.bounds;
    };
  },
  subst (Has x) (sym e) (Has-right x rest.items (x ∷ []) here),
)
