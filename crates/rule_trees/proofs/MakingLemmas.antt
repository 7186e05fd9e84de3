-- What unification with a cut answers is what a rule makes of its daughters.
use Rattle.std.proofs.Common.{ℕ, zero, suc, ◌≡◌, ◌+◌, ◌<◌, List, [], ◌∷◌, ◌++◌, length, map, drop, get_or, Option, None, Some, refl, sym, ◌∙◌, ap, subst, arith, append_assoc}
use Rattle.std.specs.Prelude.{All, IfSome, option_map, slice_get}
use Rattle.std.proofs.lemmas.List.{append-nil, drop_more}
use Rattle.fs_model.specs.Claims.{Path, Has, here, there}
use Rattle.fs_model.specs.Closure.{IsConsistent}
use Rattle.fs_model.specs.Sources.{Source, Told}
use Rattle.fs_graph.specs.GraphMap.{GraphMap, reader_of}
use Rattle.fs_unify.specs.Rules.{Grammar, system_of}
use Rattle.fs_unify.specs.Owing.{OwedFacts, OwedRules, IsWellFormedBut, ListsOwed, owes_nothing, owes_rules}
use Rattle.fs_unify.specs.Placing.{PlacedGraph, IsPlacedIn, part_of, source_of}
use Rattle.fs_trim.specs.Cutting.{IsShort}
use Rattle.tree_model.specs.Mothers.{Rule, IsFull, IsFullAt, Applies, AppliesAt, daughters_cut}
use Rattle.tree_model.specs.Views.{view, IsInside, AllInside, inside_none, inside_more, IsTrimmed, parts_at, source_alone, source_of as source_at}
use Rattle.tree_model.proofs.PathLemmas.{has_path_below}
use Rattle.tree_model.specs.Said.{rule_said}
use Rattle.tree_model.proofs.SaidLemmas.{said_trims, said_is_consistent}
use Rattle.tree_model.proofs.ViewLemmas.{trimmed_full, none_applies}
use Rattle.tree_model.specs.Signs.{Instance, Signs, rule_system}
use Rattle.book_signs.specs.Conditions.{IsClosed}
use Rattle.book_signs.specs.Signed.{facts_of}
use Rattle.book_signs.specs.Trees.{SignTree, signs_of, rule_at, facts_at, places_at, ArePathsIn}
use Rattle.rule_trees.specs.Mothers.{graph_view, IsShortIn, IsMotherOf, HasDaughters}
use Rattle.rule_trees.specs.Inner.Placed.{daughters_at, placed_with}

none_at : (owed : OwedRules) (ps : List Path) → daughters_at owed ps [] ≡ []
none_at owed [] = refl
none_at owed (p ∷ ps) = refl

-- one daughter more
pub daughters_next : (owed : OwedRules) (ps : List Path) (gs : List GraphMap) (i : ℕ) (p : Path) (g : GraphMap) (old new all : List PlacedGraph) → i < length ps → i < length gs → p ≡ get_or ps i p → g ≡ get_or gs i g →
    new ≡ old ++ record { place = p; graph = g; owes = owes_rules owed } ∷ [] → old ++ daughters_at owed (drop i ps) (drop i gs) ≡ all → new ++ daughters_at owed (drop (i + 1) ps) (drop (i + 1) gs) ≡ all
daughters_next owed ps gs i p g old new all lp lg ep eg e h =
    let x : PlacedGraph = record { place = p; graph = g; owes = owes_rules owed } in
    let rest = daughters_at owed (drop (i + 1) ps) (drop (i + 1) gs) in
    let dp : drop i ps ≡ p ∷ drop (i + 1) ps = drop_more ps i p lp ∙ ap (λ q. q ∷ drop (i + 1) ps) (sym ep) in
    let dg : drop i gs ≡ g ∷ drop (i + 1) gs = drop_more gs i g lg ∙ ap (λ q. q ∷ drop (i + 1) gs) (sym eg) in
    ap (λ l. l ++ rest) e ∙ append_assoc old (x ∷ []) rest
    ∙ ap (λ l. old ++ l) (sym (ap (λ l. daughters_at owed l (drop i gs)) dp ∙ ap (daughters_at owed (p ∷ drop (i + 1) ps)) dg)) ∙ h

pub daughters_all : (owed : OwedRules) (ps : List Path) (gs : List GraphMap) (i : ℕ) (old all : List PlacedGraph) → drop i gs ≡ [] → old ++ daughters_at owed (drop i ps) (drop i gs) ≡ all → old ≡ all
daughters_all owed ps gs i old all e h = sym (append-nil old) ∙ ap (λ l. old ++ l) (sym (ap (daughters_at owed (drop i ps)) e ∙ none_at owed (drop i ps))) ∙ h

-- graphs that are short are inside the paths
pub inside : (t : SignTree) (graph : GraphMap) → IsShortIn t graph → IsInside (signs_of t).paths (reader_of graph)
inside t graph is p n e = has_path_below (length t.book.system.introducers) t.book.system.path_limit p (is.short p n e) (is.feats_in p n e)

pub all_inside : (t : SignTree) (ds : List GraphMap) → All (IsShortIn t) ds → AllInside (signs_of t).paths (map reader_of ds)
all_inside t [] all = inside_none
all_inside t (d ∷ ds) all = inside_more (inside t d (all 0 d (omega arith))) (all_inside t ds (λ k x l. all (suc k) x (omega (arith, l))))

pub fused : (t : SignTree) (ds : List GraphMap) → map (view (signs_of t).paths) (map reader_of ds) ≡ map (graph_view t) ds
fused t [] = refl
fused t (d ∷ ds) = ap (λ ms. graph_view t d ∷ ms) (fused t ds)

same_parts : (owed : OwedRules) (ps : List Path) (gs : List GraphMap) → map part_of (daughters_at owed ps gs) ≡ parts_at ps (map reader_of gs)
same_parts owed [] gs = refl
same_parts owed (p ∷ ps) [] = refl
same_parts owed (p ∷ ps) (x ∷ gs) = ap (λ qs. record { place = p; reader = reader_of x } ∷ qs) (same_parts owed ps gs)

-- the rule of an instance by its structure and its places
abbrev pub rule_with : GraphMap → List Path → Rule
rule_with structure places = record { facts = source_alone (reader_of structure); places = places }

pub same_source : (owed : OwedRules) (structure : GraphMap) (places : List Path) (ds : List GraphMap) → source_of (placed_with owed structure places ds) ≡ source_at (rule_with structure places) (map reader_of ds)
same_source owed structure places ds = ap (λ qs. record { claims = []; parts = record { place = []; reader = reader_of structure } ∷ qs }) (same_parts owed places ds)

pub rule_is : (o : Option Rule) (facts : Source) (places : List Path) → option_map (λ r. r.facts) o ≡ Some facts → option_map (λ r. r.places) o ≡ Some places → o ≡ Some (record { facts = facts; places = places })
rule_is None facts places e f = absurd (cc)
rule_is (Some r) facts places e f = let x : r.facts ≡ facts = cc in let y : r.places ≡ places = cc in λ i. Some (record { facts = x i; places = y i })

-- the rule of an instance by what its structure says
abbrev pub rule_by : SignTree → GraphMap → List Path → Rule
rule_by t structure places = rule_said (signs_of t).paths (reader_of structure) places

-- what unification with the cut answers
pub made : (t : SignTree) (owed : OwedRules) (place : ℕ) (structure : GraphMap) (places : List Path) (ds : List GraphMap) (parts : List PlacedGraph) (o : Option GraphMap) →
    facts_at (signs_of t) place ≡ Some (facts_of t.book.system structure) → places_at (signs_of t) place ≡ Some places → IsShortIn t structure → All (IsShortIn t) ds → parts ≡ placed_with owed structure places ds →
    IsTrimmed (system_of t.book.system) (source_of parts) [] (daughters_cut (rule_system (signs_of t))) (option_map reader_of o) → IfSome o (IsShort t.book.system) → IsMotherOf t place ds o
made t owed place structure places ds parts o facts at own short are trimmed known = by_answer o trimmed known
  where
    rule : rule_at (signs_of t) place ≡ Some (rule_by t structure places)
    rule = rule_is (rule_at (signs_of t) place) (facts_of t.book.system structure) places facts at

    source : source_of parts ≡ source_at (rule_with structure places) (map reader_of ds)
    source = ap source_of are ∙ same_source owed structure places ds

    by_answer : (o : Option GraphMap) → IsTrimmed (system_of t.book.system) (source_of parts) [] (daughters_cut (rule_system (signs_of t))) (option_map reader_of o) → IfSome o (IsShort t.book.system) → IsMotherOf t place ds o
    by_answer None clash known = λ may.
        let z : AppliesAt (rule_system (signs_of t)) (Some (rule_by t structure places)) (map (graph_view t) ds) = subst (λ r. AppliesAt (rule_system (signs_of t)) r (map (graph_view t) ds)) rule may in
        let y : Applies (rule_system (signs_of t)) (rule_by t structure places) (map (view (signs_of t).paths) (map reader_of ds)) = subst (λ fs. Applies (rule_system (signs_of t)) (rule_by t structure places) fs) (sym (fused t ds)) z in
        let refused = subst (λ src. IsConsistent (system_of t.book.system) (Told src) → ⊥) source clash in
        none_applies (rule_system (signs_of t)) (rule_by t structure places) (map reader_of ds) (all_inside t ds short)
        (λ ok. refused ((said_is_consistent (system_of t.book.system) (signs_of t).paths (reader_of structure) places (map reader_of ds) (inside t structure own)).1 ok)) y
    by_answer (Some graph) is known =
        let by_graph = subst (λ src. IsTrimmed (system_of t.book.system) src [] (daughters_cut (rule_system (signs_of t))) (Some (reader_of graph))) source is in
        let z = trimmed_full (rule_system (signs_of t)) (rule_by t structure places) (map reader_of ds) (reader_of graph) (all_inside t ds short) (inside t graph known)
        (said_trims (system_of t.book.system) (signs_of t).paths (reader_of structure) places (map reader_of ds) (inside t structure own) [] (daughters_cut (rule_system (signs_of t))) (Some (reader_of graph)) by_graph) in
        (subst (λ r. IsFullAt (rule_system (signs_of t)) r (map (graph_view t) ds) (graph_view t graph)) (sym rule) (subst (λ fs. IsFull (rule_system (signs_of t)) (rule_by t structure places) fs (graph_view t graph)) (fused t ds) z), known)

abbrev pub Owes : Grammar → OwedFacts → GraphMap → Type 0
Owes g facts graph = IsWellFormedBut (system_of g) (reader_of graph) facts

-- the parts of a rule are in range, and owe no more than is said
module _ (g : Grammar) (facts : OwedFacts) (owed : OwedRules) (lists : ListsOwed g facts owed) where
  pub cut_part : (place : Path) (graph : GraphMap) → All (λ f. f < length g.introducers) place → IsShort g graph → Owes g facts graph → IsPlacedIn g (record { place = place; graph = graph; owes = owes_rules owed })
  cut_part place graph within is owes = record { place_in = within; graph_in = is.graph_in; owed_in = record { facts = facts; lists = lists; well_formed = owes } }

  daughters_in : (ps : List Path) (ds : List GraphMap) → ArePathsIn g ps → All (IsShort g) ds → All (Owes g facts) ds → (p : PlacedGraph) → Has p (daughters_at owed ps ds) → IsPlacedIn g p
  daughters_in [] ds h k w p m = elim m [ ]
  daughters_in (q ∷ ps) [] h k w p m = elim m [ ]
  daughters_in (q ∷ ps) (d ∷ ds) h k w p (here) = cut_part q d (h 0 q (omega arith)) (k 0 d (omega arith)) (w 0 d (omega arith))
  daughters_in (q ∷ ps) (d ∷ ds) h k w p (there m) = daughters_in ps ds (λ i x l. h (suc i) x (omega (arith, l))) (λ i x l. k (suc i) x (omega (arith, l))) (λ i x l. w (suc i) x (omega (arith, l))) p m

pub closed_part : (g : Grammar) (structure : GraphMap) → IsClosed g structure → IsPlacedIn g (record { place = []; graph = structure; owes = owes_nothing })
closed_part g structure is = record { place_in = λ i d l. absurd (omega (arith, l)); graph_in = is.answer.graph_in; owed_in = is.answer.well_formed }

pub placed_in : (g : Grammar) (facts : OwedFacts) (owed : OwedRules) → ListsOwed g facts owed → (structure : GraphMap) (places : List Path) (ds : List GraphMap) → IsClosed g structure → ArePathsIn g places → All (IsShort g) ds → All (Owes g facts) ds → (p : PlacedGraph) → Has p (placed_with owed structure places ds) → IsPlacedIn g p
placed_in g facts owed lists structure places ds is within short owes p (here) = closed_part g structure is
placed_in g facts owed lists structure places ds is within short owes p (there m) = daughters_in g facts owed lists places ds within short owes p m

-- a place with daughters is one of an instance
get_below : {A : Type 0} (xs : List A) (n : ℕ) (x : A) → slice_get xs n ≡ Some x → n < length xs
get_below [] n x e = absurd (cc)
get_below (y ∷ xs) zero x e = omega arith
get_below (y ∷ xs) (suc n) x e = let z = get_below xs n x e in omega (arith, z)

pub has_place : (g : Signs) (place count : ℕ) → HasDaughters g place count → place < length g.instances
has_place g place count h = get_below g.instances place h.instance h.at

pub has_places : (g : Signs) (place count : ℕ) (places : List Path) → HasDaughters g place count → places_at g place ≡ Some places → length places ≡ count
has_places g place count places h e =
    let z : Some h.instance.rule.places ≡ Some places = sym (ap (λ o. option_map (λ (r : Rule). r.places) (option_map (λ (i : Instance). i.rule) o)) h.at) ∙ e in
    let y : h.instance.rule.places ≡ places = cc in
    ap length (sym y) ∙ h.arity
