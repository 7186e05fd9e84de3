-- The verdict on a rule's graph and its daughters' graphs, as that on the rule and their structures.
use Rattle.std.specs.Prelude.{ℕ, zero, suc, ◌≡◌, ◌<◌, ◌≤◌, ◌+◌, ◌⊎◌, All, Some, List, [], ◌∷◌, ◌++◌, length, map, drop, get_or, slice_index_or}
use Rattle.std.proofs.Common.{inl, inr, refl, sym, ap, subst, ◌∙◌, arith, append_assoc}
use Rattle.std.proofs.lemmas.Bool.{cases_lt}
use Rattle.std.proofs.lemmas.List.{append-nil, drop_more, length-map}
use Rattle.std.proofs.lemmas.List.Elements.{All-head, All-tail}
use Rattle.type_hierarchy.specs.Table.{count_of, completed_count}
use Rattle.type_hierarchy.specs.Laws.{HasTypeLaws}
use Rattle.fs_model.specs.Claims.{Path, Claim, at, Has, here, there}
use Rattle.fs_model.specs.Sources.{Part, Told, told_claim, told_part, Tells, tells_exists, tells_same, tells_below}
use Rattle.fs_graph.specs.GraphMap.{GraphMap, reader_of}
use Rattle.fs_closing.specs.Rules.{Grammar, system_of, IsClaimIn, IsGrammar}
use Rattle.fs_trim.specs.Cutting.{IsShort}
use Rattle.tree_model.specs.Structures.{Structure}
use Rattle.tree_model.specs.Mothers.{Rule, Parts, AppliesAt}
use Rattle.tree_model.specs.Views.{AllInside, parts_at, source_of as source_at}
use Rattle.tree_model.specs.Said.{rule_alone}
use Rattle.tree_model.specs.Signs.{rule_system}
use Rattle.book_signs.specs.Signed.{facts_of}
use Rattle.book_signs.specs.Trees.{SignTree, signs_of, rule_at, facts_at, places_at, ArePathsIn}
use Rattle.rule_trees.specs.Mothers.{graph_view, IsShortIn, AppliesTo}
use Rattle.rule_trees.proofs.MakingLemmas.{inside, all_inside, fused, rule_is, rule_by}
use Rattle.forced_types.specs.declared.placed.PlacedGraph.{PlacedGraph}
use Rattle.forced_types.specs.Verdicts.{Verdict, Fits, IsVerdict}
use Rattle.forced_types.specs.Views.{part_of, source_of, ArePartsIn}
use Rattle.forced_types.proofs.VerdictLemmas.{fits_consistent}
use Rattle.tree_faults.specs.Inner.Structures.{placed_of, pairs_at, placed_with, IsForcedAt, IsNamedVerdict, IsRefusal}
use Rattle.tree_faults.proofs.Given.{verdict_on_graphs}
use Rattle.tree_faults.proofs.Ranges.{moved_in, verdict_in}

-- one daughter more at its place
pub pairs_next : (ps : List Path) (gs : List GraphMap) (i : ℕ) (p : Path) (g : GraphMap) (old new all : List (Path × GraphMap)) → i < length ps → i < length gs → p ≡ get_or ps i p → g ≡ get_or gs i g →
    new ≡ old ++ (p, g) ∷ [] → old ++ pairs_at (drop i ps) (drop i gs) ≡ all → new ++ pairs_at (drop (i + 1) ps) (drop (i + 1) gs) ≡ all
pairs_next ps gs i p g old new all lp lg ep eg e h =
    let rest = pairs_at (drop (i + 1) ps) (drop (i + 1) gs) in
    let dp : drop i ps ≡ p ∷ drop (i + 1) ps = drop_more ps i p lp ∙ ap (λ q. q ∷ drop (i + 1) ps) (sym ep) in
    let dg : drop i gs ≡ g ∷ drop (i + 1) gs = drop_more gs i g lg ∙ ap (λ q. q ∷ drop (i + 1) gs) (sym eg) in
    ap (λ l. l ++ rest) e ∙ append_assoc old ((p, g) ∷ []) rest
    ∙ ap (λ l. old ++ l) (sym (ap (λ l. pairs_at l (drop i gs)) dp ∙ ap (pairs_at (p ∷ drop (i + 1) ps)) dg)) ∙ h

no_graphs : (ps : List Path) → pairs_at ps [] ≡ []
no_graphs [] = refl
no_graphs (p ∷ ps) = refl

pub pairs_all : (ps : List Path) (gs : List GraphMap) (i : ℕ) (old all : List (Path × GraphMap)) → drop i gs ≡ [] → old ++ pairs_at (drop i ps) (drop i gs) ≡ all → old ≡ all
pairs_all ps gs i old all e h = sym (append-nil old) ∙ ap (λ l. old ++ l) (sym (ap (pairs_at (drop i ps)) e ∙ no_graphs (drop i ps))) ∙ h

-- graphs at places as parts
abbrev part_in : Path × GraphMap → Part
part_in x = record { place = x.0; reader = reader_of x.1 }

parts_in : (ps : List Path) (gs : List GraphMap) → map part_in (pairs_at ps gs) ≡ parts_at ps (map reader_of gs)
parts_in [] gs = refl
parts_in (p ∷ ps) [] = refl
parts_in (p ∷ ps) (g ∷ gs) = ap (λ l. part_in (p, g) ∷ l) (parts_in ps gs)

fuse : (parts : List PlacedGraph) → map part_of parts ≡ map part_in (map placed_of parts)
fuse [] = refl
fuse (p ∷ parts) = ap (λ l. part_of p ∷ l) (fuse parts)

source_is : (structure : GraphMap) (ps : List Path) (gs : List GraphMap) (parts : List PlacedGraph) → map placed_of parts ≡ placed_with structure ps gs → source_of parts ≡ source_at (rule_alone (reader_of structure) ps) (map reader_of gs)
source_is structure ps gs parts e =
    ap (λ (l : List Part). record { claims = []; parts = l }) (fuse parts ∙ ap (map part_in) e ∙ ap (λ l. part_in ([], structure) ∷ l) (parts_in ps gs))

pub some_in : (parts : List PlacedGraph) (structure : GraphMap) (ps : List Path) (gs : List GraphMap) → map placed_of parts ≡ placed_with structure ps gs → 0 < length parts
some_in parts structure ps gs e =
    let l : length parts ≡ length (placed_with structure ps gs) = sym (length-map parts placed_of) ∙ ap length e in
    subst (λ n. 0 < n) (sym l) (omega arith)

has_placed : (p : PlacedGraph) (parts : List PlacedGraph) → Has p parts → Has (placed_of p) (map placed_of parts)
has_placed p [] h = elim h [ ]
has_placed _ (q ∷ parts) here = here
has_placed p (q ∷ parts) (there h) = there (has_placed p parts h)

beyond : (xs : List ℕ) (n d : ℕ) → length xs ≤ n → slice_index_or xs n d ≡ d
beyond [] n d h = refl
beyond (x ∷ xs) zero d h = absurd (omega (arith, h))
beyond (x ∷ xs) (suc n) d h = beyond xs n d (omega (arith, h))

module _ (t : SignTree) where
  abbrev b : Grammar
  b = t.book.system

  -- places and graphs in range
  record IsPairIn (x : Path × GraphMap) : Type 0 where
    place : All (λ f. f < length b.introducers) x.0
    short : IsShort b x.1

  pairs_in : (ps : List Path) (gs : List GraphMap) → ArePathsIn b ps → All (IsShortIn t) gs → (x : Path × GraphMap) → Has x (pairs_at ps gs) → IsPairIn x
  pairs_in [] gs h k x m = elim m [ ]
  pairs_in (p ∷ ps) [] h k x m = elim m [ ]
  pairs_in (p ∷ ps) (g ∷ gs) h k _ here = record { place = All-head (λ q. All (λ f. f < length b.introducers) q) p ps h; short = All-head (IsShortIn t) g gs k }
  pairs_in (p ∷ ps) (g ∷ gs) h k x (there m) = pairs_in ps gs (All-tail (λ q. All (λ f. f < length b.introducers) q) p ps h) (All-tail (IsShortIn t) g gs k) x m

  whole_in : (structure : GraphMap) (ps : List Path) (gs : List GraphMap) → IsShortIn t structure → ArePathsIn b ps → All (IsShortIn t) gs → (x : Path × GraphMap) → Has x (placed_with structure ps gs) → IsPairIn x
  whole_in structure ps gs own h k _ here = record { place = λ i d l. absurd (omega (arith, l)); short = own }
  whole_in structure ps gs own h k x (there m) = pairs_in ps gs h k x m

  -- what short graphs tell is in range
  told_in : 0 < count_of b.types → (g : GraphMap) → IsShort b g → (c : Claim) → Tells (reader_of g) c → IsClaimIn (count_of b.types) (length b.introducers) c
  told_in some g is _ (tells_exists p n e) = is.feats_in p n e
  told_in some g is _ (tells_same p q n e f) = (is.feats_in p n e, is.feats_in q n f)
  told_in some g is _ (tells_below p n e) = (is.feats_in p n e, type_in)
    where
      type_in : slice_index_or g.types n 0 < count_of b.types
      type_in = by (cases_lt n (length g.types))
        where
          by : (n < length g.types) ⊎ (length g.types ≤ n) → slice_index_or g.types n 0 < count_of b.types
          by (inl l) = is.graph_in.types_in n 0 l
          by (inr l) = subst (λ k. k < count_of b.types) (sym (beyond g.types n 0 l)) some

  module _ (structure : GraphMap) (ps : List Path) (gs : List GraphMap) (parts : List PlacedGraph) (own : IsShortIn t structure) (within : ArePathsIn b ps) (short : All (IsShortIn t) gs) (are : map placed_of parts ≡ placed_with structure ps gs) where
    pair_of : (p : PlacedGraph) → Has p parts → IsPairIn (placed_of p)
    pair_of p h = whole_in structure ps gs own within short (placed_of p) (subst (Has (placed_of p)) are (has_placed p parts h))

    pub all_in : ArePartsIn b parts
    all_in p h = let x = pair_of p h in record { place = x.place; graph = x.short.graph_in }

    claims_in : 0 < count_of b.types → (c : Claim) → Told (source_of parts) c → IsClaimIn (count_of b.types) (length b.introducers) c
    claims_in some c (told_claim _ h) = elim h [ ]
    claims_in some _ (told_part part c h a) = among parts (λ p k. pair_of p k) part h a
      where
        among : (qs : List PlacedGraph) → ((p : PlacedGraph) → Has p qs → IsPairIn (placed_of p)) → (p : Part) → Has p (map part_of qs) → Tells p.reader c → IsClaimIn (count_of b.types) (length b.introducers) (at p.place c)
        among [] all p m a = elim m [ ]
        among (q ∷ qs) all _ here a = let x = all q here in moved_in b (placed_of q).0 c x.place (told_in some (placed_of q).1 x.short c a)
        among (q ∷ qs) all p (there m) a = among qs (λ p k. all p (there k)) p m a

    pub verdict_named : IsGrammar b → HasTypeLaws b.types → completed_count b.types ≤ count_of b.types → (v : Verdict) → IsVerdict (system_of b) (Told (source_of parts)) v → IsNamedVerdict b v
    verdict_named is laws counts v h = verdict_in b is laws counts (claims_in is.some) v h

    module _ (place : ℕ) (facts : facts_at (signs_of t) place ≡ Some (facts_of b structure)) (places : places_at (signs_of t) place ≡ Some ps) where
      rule : rule_at (signs_of t) place ≡ Some (rule_by t structure ps)
      rule = rule_is (rule_at (signs_of t) place) (facts_of b structure) ps facts places

      all : AllInside (signs_of t).paths (map reader_of gs)
      all = all_inside t gs short

      pub verdict_forced : (v : Verdict) → IsVerdict (system_of b) (Told (source_of parts)) v → IsForcedAt t place (map (graph_view t) gs) v
      verdict_forced v h r at =
          let same : rule_by t structure ps ≡ r = (let z : Some (rule_by t structure ps) ≡ Some r = sym rule ∙ at in cc) in
          let graphs : IsVerdict (system_of b) (Told (source_at (rule_alone (reader_of structure) ps) (map reader_of gs))) v = subst (λ s. IsVerdict (system_of b) (Told s) v) (source_is structure ps gs parts are) h in
          let said = (verdict_on_graphs (system_of b) (signs_of t).paths (reader_of structure) ps (map reader_of gs) (inside t structure own) all v).0 graphs in
          subst (λ x. IsVerdict (system_of b) (Parts (signs_of t).paths x (map (graph_view t) gs)) v) same
          (subst (λ fs. IsVerdict (system_of b) (Parts (signs_of t).paths (rule_by t structure ps) fs) v) (fused t gs) said)

-- parts that fit are those to which the rule applies
pub fits_applies : (t : SignTree) (place : ℕ) (fs : List Structure) (rule : Rule) → rule_at (signs_of t) place ≡ Some rule → IsForcedAt t place fs Fits → AppliesTo (signs_of t) place fs
fits_applies t place fs rule at h =
    let g = signs_of t in
    subst (λ o. AppliesAt (rule_system g) o fs) (sym at) (fits_consistent g.system (Parts g.paths rule fs) (h rule at))

pub refuses : (t : SignTree) (place : ℕ) (fs : List Structure) (rule : Rule) (v : Verdict) → rule_at (signs_of t) place ≡ Some rule → (AppliesTo (signs_of t) place fs → ⊥) → IsForcedAt t place fs v → IsNamedVerdict t.book.system v → IsRefusal t.book.system v
refuses t place fs rule v at never forced named = record {
  named = named;
  unfit = λ e. never (fits_applies t place fs rule at (subst (IsForcedAt t place fs) e forced));
}
