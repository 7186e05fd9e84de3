-- What is known of lists that were looked at element by element, of type systems made of them, and of parts of answers.
use Rattle.std.proofs.Common.{ℕ, suc, ◌≡◌, ◌<◌, ◌≤◌, ◌==◌, Bool, true, false, List, [], ◌∷◌, ◌++◌, All, length, take, slice_index_or, refl, sym, ◌∙◌, ap, subst, arith}
use Rattle.std.proofs.lemmas.Bool.{eqb-true}
use Rattle.std.proofs.lemmas.List.{take_all, length-map}
use Rattle.std.proofs.lemmas.List.Elements.{All-map}
use Rattle.type_hierarchy.specs.declared.types.Ty.{Ty}
use Rattle.type_hierarchy.specs.Table.{TypeTable, count_of, is_below}
use Rattle.fs_model.specs.Claims.{Path, Claim, IsBare, Has, here, there}
use Rattle.fs_graph.specs.declared.facts.Fact.{Fact}
use Rattle.fs_graph.specs.Facts.{claim_of, claims_of}
use Rattle.fs_closing.specs.declared.facts.TypeFacts.{TypeFacts}
use Rattle.fs_closing.specs.Rules.{Rule, no_rule, Grammar, IsGrammar, IsClaimIn, facts_in, system_of}
use Rattle.fs_closing.specs.Systems.{grammar_of, rule_of, rules_of}
use Rattle.fs_closing.proofs.HasLemmas.{Has-of_map, each_push}
use Rattle.fs_graph.specs.GraphMap.{GraphMap}
use Rattle.fs_unify.specs.Owing.{owes_all, owes_nothing}
use Rattle.fs_unify.specs.Placing.{PlacedGraph, IsPlacedIn, IsAnswerIn}

-- all elements were looked at
pub at_end : {X : Type 0} (P : X → Type 0) (xs : List X) (i : ℕ) → length xs ≤ i → All P (take i xs) → All P xs
at_end P xs i h all = subst (All P) (take_all i xs h) all

pub All-Has : {X : Type 0} (P : X → Type 0) (xs : List X) → All P xs → (x : X) → Has x xs → P x
All-Has P [] all x h = elim h [ ]
All-Has P (y ∷ xs) all _ here = all 0 y (omega arith)
All-Has P (y ∷ xs) all x (there h) = All-Has P xs (λ k d i. all (suc k) d (omega (arith, i))) x h

-- claims that were looked at
pub claims_in : (types feats : ℕ) (facts : List Fact) → All (λ x. IsClaimIn types feats (claim_of x)) facts → (c : Claim) → Has c (claims_of facts) →
    IsClaimIn types feats c
claims_in types feats facts all c h =
    let r = Has-of_map claim_of c facts h in
    subst (IsClaimIn types feats) (sym r.2) (All-Has (λ x. IsClaimIn types feats (claim_of x)) facts all r.0 r.1)

-- a type's facts can stand in a grammar of five features where nothing is said of the top type
abbrev pub IsFit : TypeTable → TypeFacts → Type 0
IsFit types f = (f.ty.0 < count_of types) × (is_below types 0 f.ty.0 ≡ false) × ((c : Claim) → Has c (claims_of f.facts.items) → IsClaimIn (count_of types) 5 c)

pub sample_grammar : (types : TypeTable) (introducers : List Ty) (constraints : List TypeFacts) (limit : ℕ) → 0 < count_of types → length introducers ≡ 5 →
    All (λ t. t.0 < count_of types) introducers → All (IsFit types) constraints → IsGrammar (grammar_of types introducers constraints limit)
sample_grammar types introducers constraints limit some five are fit = record {
  some = some;
  introducers = λ f h. All-map (λ t. t < count_of types) (λ t. t.0) introducers are f 0 h;
  rule_types = λ j h. (rule_in j h).0;
  claims = λ j c h i. subst (λ n. IsClaimIn (count_of types) n c) (sym (length-map introducers (λ t. t.0) ∙ five)) ((rule_in j h).2 c i);
}
  where
    IsRule : Rule → Type 0
    IsRule r = (r.ty < count_of types) × (is_below types 0 r.ty ≡ false) × ((c : Claim) → Has c r.claims → IsClaimIn (count_of types) 5 c)

    rule_in : (j : ℕ) → j < length (rules_of constraints) → IsRule (slice_index_or (rules_of constraints) j no_rule)
    rule_in j h = All-map IsRule rule_of constraints fit j no_rule h

-- nothing is said of the top type
bare_rules : (types : TypeTable) (constraints : List TypeFacts) → ((f : TypeFacts) → Has f constraints → is_below types 0 f.ty.0 ≡ false) →
    (t : ℕ) (c : Claim) → is_below types 0 t ≡ true → Has c (facts_in (rules_of constraints) t) → ⊥
bare_rules types [] fit t c top h = elim h [ ]
bare_rules types (f ∷ fs) fit t c top h = go (f.ty.0 == t) refl h (bare_rules types fs (λ x j. fit x (there j)) t c top)
  where
    go : (b : Bool) → (f.ty.0 == t) ≡ b → Has c (elim b [ true ↦ claims_of f.facts.items ++ facts_in (rules_of fs) t | false ↦ facts_in (rules_of fs) t ]) →
        (Has c (facts_in (rules_of fs) t) → ⊥) → ⊥
    go true is _ _ = absurd (cc (fit f here, top, ap (is_below types 0) (eqb-true f.ty.0 t is)))
    go false _ i rest = rest i

pub sample_bare : (types : TypeTable) (introducers : List Ty) (constraints : List TypeFacts) (limit : ℕ) → All (IsFit types) constraints →
    IsBare (system_of (grammar_of types introducers constraints limit))
sample_bare types introducers constraints limit fit t c top h =
    bare_rules types constraints (λ f i. (All-Has (IsFit types) constraints fit f i).1) t c top h

-- two answers, the second one at a path and known to be well-formed
pub two_placed : (g : Grammar) (p q : Path) (a b : GraphMap) (none one two : List PlacedGraph) → none ≡ [] →
    one ≡ none ++ record { place = p; graph = a; owes = owes_all } ∷ [] → two ≡ one ++ record { place = q; graph = b; owes = owes_nothing } ∷ [] →
    p ≡ [] → All (λ f. f < length g.introducers) q → IsAnswerIn g a → IsAnswerIn g b → (x : PlacedGraph) → Has x two → IsPlacedIn g x
two_placed g p q a b none one two nothing first second root in_range known_a known_b =
    each_push (IsPlacedIn g) one two (record { place = q; graph = b; owes = owes_nothing }) second
    (each_push (IsPlacedIn g) none one (record { place = p; graph = a; owes = owes_all }) first (λ x h. elim (subst (Has x) nothing h) [ ])
    (record { place_in = subst (All (λ f. f < length g.introducers)) (sym root) (λ k d h. absurd (omega (arith, h))); graph_in = known_a.graph_in; owed_in = tt }))
    (record { place_in = in_range; graph_in = known_b.graph_in; owed_in = known_b.well_formed })
