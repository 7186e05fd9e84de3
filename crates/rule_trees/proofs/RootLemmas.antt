-- Roots and a structure together.
use Rattle.std.proofs.Common.{ℕ, zero, suc, ◌≡◌, ◌+◌, ◌<◌, ◌≤◌, ◌⊎◌, inl, inr, Bool, List, [], ◌∷◌, ◌++◌, length, take, get_or, Some, refl, sym, ◌∙◌, ap, subst, arith}
use Rattle.std.specs.Prelude.{◌↔◌, IsTrue, option_map, slice_get}
use Rattle.std.proofs.lemmas.List.{take_more, take_all, get_or_default}
use Rattle.fs_model.specs.Claims.{Path, Claim, at, Has, here, there}
use Rattle.fs_model.specs.Closure.{Closure, given_claim, AreConsistent, IsConsistent}
use Rattle.fs_model.specs.Sources.{Source, Told}
use Rattle.fs_graph.specs.GraphMap.{GraphMap, reader_of}
use Rattle.fs_unify.specs.Rules.{system_of}
use Rattle.fs_unify.specs.Owing.{OwedFacts, OwedRules, IsWellFormedBut, ListsOwed}
use Rattle.fs_unify.specs.Placing.{PlacedGraph, IsPlacedIn, source_of}
use Rattle.tree_model.specs.Structures.{Structure, Beside, beside_here, beside_there, Says}
use Rattle.tree_model.specs.Mothers.{Rule, Parts, of_rule, of_daughter}
use Rattle.tree_model.specs.Views.{AllInside, inside_none, inside_more, source_of as source_at}
use Rattle.tree_model.specs.Said.{rule_said}
use Rattle.tree_model.proofs.SaidLemmas.{alone_said, said_alone}
use Rattle.tree_model.proofs.Closures.{grows, falls}
use Rattle.tree_model.proofs.ViewLemmas.{at_root, parts_to, parts_back}
use Rattle.tree_model.specs.Signs.{Kind, Instance, Signs, rule_system}
use Rattle.tree_model.specs.Trees.{Both, of_root, of_full, IsRooted}
use Rattle.book_signs.specs.Trees.{SignTree, signs_of, facts_at, places_where, kinds_of, is_root, roots_of}
use Rattle.book_signs.specs.Conditions.{IsClosed}
use Rattle.book_signs.specs.Signed.{facts_of}
use Rattle.book_signs.proofs.KindLemmas.{kinded, has_kind, root_kind}
use Rattle.rule_trees.specs.Mothers.{graph_view, IsShortIn}
use Rattle.rule_trees.specs.Inner.Placed.{placed_both}
use Rattle.rule_trees.specs.Inner.Rooting.{IsRootedBy}
use Rattle.rule_trees.proofs.MakingLemmas.{inside, closed_part, cut_part}

-- a root as a rule with one daughter, at the root
abbrev over_root : Source → Rule
over_root facts = record { facts = facts; places = [] ∷ [] }

both_parts : (g : Signs) (i : Instance) (f : Structure) (c : Claim) → Both g i f c → Parts g.paths (over_root i.rule.facts) (f ∷ []) c
both_parts g i f c (of_root _ h) = of_rule c h
both_parts g i f c (of_full _ h) = subst (Parts g.paths (over_root i.rule.facts) (f ∷ [])) (at_root c) (of_daughter [] f c beside_here h)

at_the_root : (g : Signs) (i : Instance) (f m : Structure) (place : Path) (c : Claim) → Beside place m ([] ∷ []) (f ∷ []) → Says g.paths m c → Both g i f (at place c)
at_the_root g i f m place c (beside_here) h = of_full (at [] c) (subst (Says g.paths f) (sym (at_root c)) h)
at_the_root g i f m place c (beside_there b) h = elim b [ ]

parts_both : (g : Signs) (i : Instance) (f : Structure) (c : Claim) → Parts g.paths (over_root i.rule.facts) (f ∷ []) c → Both g i f c
parts_both g i f c (of_rule _ h) = of_root c h
parts_both g i f _ (of_daughter place m c b h) = at_the_root g i f m place c b h

module _ (t : SignTree) (owed : OwedRules) (i : Instance) (root full : GraphMap) (facts : i.rule.facts ≡ facts_of t.book.system root) (own : IsShortIn t root) (short : IsShortIn t full) where
  abbrev g : Signs
  g = signs_of t

  all : AllInside g.paths (reader_of full ∷ [])
  all = inside_more (inside t full short) inside_none

  source : source_at (over_root i.rule.facts) (reader_of full ∷ []) ≡ source_at (rule_said g.paths (reader_of root) ([] ∷ [])) (reader_of full ∷ [])
  source = ap (λ (s : Source). source_at (over_root s) (reader_of full ∷ [])) facts

  to_both : (c : Claim) → Told (source_of (placed_both owed root full)) c → Closure g.system (Both g i (graph_view t full)) c
  to_both c h =
      grows g.system (λ d x. grows g.system (λ e y. given_claim e (parts_both g i (graph_view t full) e y))
      (parts_to (rule_system g) (over_root i.rule.facts) (reader_of full ∷ []) all d (subst (λ s. Told s d) (sym source) x)))
      (alone_said g.system g.paths (reader_of root) ([] ∷ []) (reader_of full ∷ []) (inside t root own) (given_claim c h))

  from_both : (c : Claim) → Both g i (graph_view t full) c → Closure g.system (Told (source_of (placed_both owed root full))) c
  from_both c h =
      said_alone g.system g.paths (reader_of root) ([] ∷ []) (reader_of full ∷ [])
      (subst (λ s. Closure g.system (Told s) c) source (parts_back (rule_system g) (over_root i.rule.facts) (reader_of full ∷ []) c (both_parts g i (graph_view t full) c h)))

  -- unification of a root and a structure
  pub rooted_together : IsConsistent (system_of t.book.system) (Told (source_of (placed_both owed root full))) ↔ AreConsistent g.system (Closure g.system (Both g i (graph_view t full)))
  rooted_together = (λ ok. falls g.system (λ c a. grows g.system from_both a) ok, λ ok. falls g.system (λ c a. grows g.system to_both a) ok)

got : {A : Type 0} (xs : List A) (n : ℕ) → n < length xs → (x : A) × (slice_get xs n ≡ Some x)
got [] n lt = absurd (omega (arith, lt))
got (x ∷ xs) zero lt = (x, refl)
got (x ∷ xs) (suc n) lt = got xs n (omega (arith, lt))

facts_here : (g : Signs) (place : ℕ) (i : Instance) (facts : Source) → slice_get g.instances place ≡ Some i → facts_at g place ≡ Some facts → i.rule.facts ≡ facts
facts_here g place i facts at h =
    let z : Some i.rule.facts ≡ Some facts = sym (ap (λ o. option_map (λ (r : Rule). r.facts) (option_map (λ (i : Instance). i.rule) o)) at) ∙ h in cc

pub rooted_here : (t : SignTree) (owed : OwedRules) (place : ℕ) (root full : GraphMap) (parts : List PlacedGraph) (good : Bool) → place < length (signs_of t).instances → facts_at (signs_of t) place ≡ Some (facts_of t.book.system root) → IsShortIn t root → IsShortIn t full →
    parts ≡ placed_both owed root full → IsTrue good ↔ IsConsistent (system_of t.book.system) (Told (source_of parts)) → IsTrue good ↔ IsRootedBy (signs_of t) (graph_view t full) place
rooted_here t owed place root full parts good lt facts own short are h =
    let i = got (signs_of t).instances place lt in
    let e = facts_here (signs_of t) place i.0 (facts_of t.book.system root) i.1 facts in
    let both = rooted_together t owed i.0 root full e own short in
    let k = subst (λ ps. IsTrue good ↔ IsConsistent (system_of t.book.system) (Told (source_of ps))) are h in (
      λ y. record { root = i.0; at = i.1; unifies = both.0 (k.0 y) },
      λ r. k.1 (both.1 (let same : r.root ≡ i.0 = (let z : Some r.root ≡ Some i.0 = sym r.at ∙ i.1 in cc) in
          subst (λ x. AreConsistent (signs_of t).system (Closure (signs_of t).system (Both (signs_of t) x (graph_view t full)))) same r.unifies)),
    )

pub both_in : (t : SignTree) (facts : OwedFacts) (owed : OwedRules) → ListsOwed t.book.system facts owed → (root full : GraphMap) → IsClosed t.book.system root → IsShortIn t full → IsWellFormedBut (system_of t.book.system) (reader_of full) facts → (p : PlacedGraph) → Has p (placed_both owed root full) → IsPlacedIn t.book.system p
both_in t facts owed lists root full is short owes p (here) = closed_part t.book.system root is
both_in t facts owed lists root full is short owes p (there here) = cut_part t.book.system facts owed lists [] full (λ i d l. absurd (omega (arith, l))) short owes
both_in t facts owed lists root full is short owes p (there (there h)) = elim h [ ]

-- roots that were tried
has_last : {A : Type 0} {x y : A} (xs : List A) → Has x (xs ++ y ∷ []) → Has x xs ⊎ (x ≡ y)
has_last [] here = inr refl
has_last [] (there h) = elim h [ ]
has_last (z ∷ xs) here = inl here
has_last {x = x} {y = y} (z ∷ xs) (there h) = later (has_last xs h)
  where
    later : Has x xs ⊎ (x ≡ y) → Has x (z ∷ xs) ⊎ (x ≡ y)
    later (inl k) = inl (there k)
    later (inr e) = inr e

abbrev pub NoneRooted : Signs → Structure → List ℕ → Type 0
NoneRooted g f roots = (place : ℕ) → Has place roots → IsRootedBy g f place → ⊥

pub none_rooted_next : (g : Signs) (f : Structure) (roots : List ℕ) (i place : ℕ) → i < length roots → place ≡ get_or roots i place → (IsRootedBy g f place → ⊥) → NoneRooted g f (take i roots) → NoneRooted g f (take (i + 1) roots)
none_rooted_next g f roots i place lt at refuse h p has is =
    by_case (has_last (take i roots) (subst (Has p) (take_more roots i place lt) has))
  where
    by_case : Has p (take i roots) ⊎ (p ≡ get_or roots i place) → ⊥
    by_case (inl k) = h p k is
    by_case (inr e) = refuse (subst (IsRootedBy g f) (e ∙ sym at) is)

-- a root among the roots
pub rooted_of : (g : Signs) (f : Structure) (place : ℕ) → Has place (roots_of g) → IsRootedBy g f place → IsRooted g f
rooted_of g f place has is =
    let k = kinded is_root 0 place g.instances has in
    let here : slice_get g.instances place ≡ Some k.instance = ap (slice_get g.instances) (k.place_is ∙ omega arith) ∙ k.at in
    let same : k.instance ≡ is.root = (let z : Some k.instance ≡ Some is.root = sym here ∙ is.at in cc) in
    record { place = place; root = is.root; at = is.at; kind = ap (λ (i : Instance). i.kind) (sym same) ∙ root_kind k.instance.kind k.kind; unifies = is.unifies }

pub none_rooted : (g : Signs) (f : Structure) → NoneRooted g f (roots_of g) → IsRooted g f → ⊥
none_rooted g f none is =
    none is.place (subst (λ p. Has p (roots_of g)) (omega arith) (has_kind is_root 0 is.place g.instances is.root is.at (ap is_root is.kind)))
    (record { root = is.root; at = is.at; unifies = is.unifies })

pub none_rooted_first : (g : Signs) (f : Structure) (roots : List ℕ) → NoneRooted g f (take 0 roots)
none_rooted_first g f [] p h is = elim h [ ]
none_rooted_first g f (r ∷ roots) p h is = elim h [ ]

pub has_got : (xs : List ℕ) (i d : ℕ) → i < length xs → Has (get_or xs i d) xs
has_got [] i d lt = absurd (omega (arith, lt))
has_got (x ∷ xs) zero d lt = here
has_got (x ∷ xs) (suc i) d lt = there (has_got xs i d (omega (arith, lt)))

get_below : {A : Type 0} (xs : List A) (n : ℕ) (x : A) → slice_get xs n ≡ Some x → n < length xs
get_below [] n x e = absurd (cc)
get_below (y ∷ xs) zero x e = omega arith
get_below (y ∷ xs) (suc n) x e = let z = get_below xs n x e in omega (arith, z)

-- what stands among the places of a kind is a place
pub kind_below : (g : Signs) (test : Kind → Bool) (place : ℕ) → Has place (places_where test 0 (kinds_of g)) → place < length g.instances
kind_below g test place has =
    let k = kinded test 0 place g.instances has in
    let z = get_below g.instances k.offset k.instance k.at in
    omega (arith, z, k.place_is)

pub root_below : (g : Signs) (roots : List ℕ) (i d : ℕ) → roots ≡ roots_of g → i < length roots → get_or roots i d < length g.instances
root_below g roots i d e lt = kind_below g is_root (get_or roots i d) (subst (Has (get_or roots i d)) e (has_got roots i d lt))

pub root_next : (g : Signs) (f : Structure) (roots : List ℕ) (i d : ℕ) → roots ≡ roots_of g → i < length roots → (IsRootedBy g f (get_or roots i d) → ⊥) → NoneRooted g f (take i (roots_of g)) → NoneRooted g f (take (i + 1) (roots_of g))
root_next g f roots i d e lt refuse h =
    none_rooted_next g f (roots_of g) i (get_or roots i d) (subst (λ l. i < length l) e lt)
    (get_or_default roots i d (get_or roots i d) lt ∙ ap (λ l. get_or l i (get_or roots i d)) e) refuse h

pub root_found : (g : Signs) (f : Structure) (roots : List ℕ) (i d : ℕ) → roots ≡ roots_of g → i < length roots → IsRootedBy g f (get_or roots i d) → IsRooted g f
root_found g f roots i d e lt is = rooted_of g f (get_or roots i d) (subst (Has (get_or roots i d)) e (has_got roots i d lt)) is

pub root_none : (g : Signs) (f : Structure) (roots : List ℕ) (i : ℕ) → roots ≡ roots_of g → length roots ≤ i → NoneRooted g f (take i (roots_of g)) → IsRooted g f → ⊥
root_none g f roots i e past h = none_rooted g f (subst (NoneRooted g f) (take_all i (roots_of g) (subst (λ l. length l ≤ i) e past)) h)
