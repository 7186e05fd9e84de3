-- What sketches of which no two structures unify refuse.
use Rattle.std.specs.Prelude.{ℕ, ◌≡◌, ◌++◌, Some, List, [], ◌∷◌, All, map, slice_get}
use Rattle.std.proofs.Common.{refl, sym, subst, zero, suc, arith, length-append}
use Rattle.fs_model.specs.Claims.{Path, Claim, at, here, there}
use Rattle.fs_model.specs.Closure.{Closure, given_claim, AreConsistent}
use Rattle.fs_model.specs.Sources.{Reader, Tells, tells_exists, tells_same, tells_below, Source, Told, told_claim, told_part}
use Rattle.fs_graph.specs.GraphMap.{reader_of}
use Rattle.fs_closing.specs.Rules.{Grammar, system_of}
use Rattle.sieve.specs.Sketches.{sketch_of, below_place}
use Rattle.sieve.specs.Unifying.{NoneUnify}
use Rattle.sieve.proofs.Lines.{has_own}
use Rattle.tree_model.specs.Cuts.{Cut}
use Rattle.tree_model.specs.Structures.{Structure, Beside, beside_here, beside_there}
use Rattle.tree_model.specs.Mothers.{Parts, of_rule, of_daughter, AppliesAt}
use Rattle.tree_model.specs.Views.{view}
use Rattle.tree_model.proofs.Closures.{grows, moved}
use Rattle.tree_model.proofs.MotherLaws.{beside_begins}
use Rattle.tree_model.proofs.SaidLemmas.{said_is_says}
use Rattle.tree_model.proofs.ViewLemmas.{tells_says, at_root}
use Rattle.grammar_shapes.specs.declared.phrase_rule.PhraseRule.{PhraseRule}
use Rattle.grammar_shapes.specs.Ruled.{places_of, rule_of, paths_in, system_in, IsRuleIn}
use Rattle.grammar_shapes.specs.Shaped.{Shape, graph_of, meaning_in, BelongsIn}
use Rattle.grammar_shapes.proofs.ShapeLemmas.{inside, map_get}
use Rattle.grammar_shapes.proofs.CallLemmas.{rule_at}

beside_at : {A B : Type 0} (xs : List A) (ys : List B) (n : ℕ) (x : A) (y : B) → slice_get xs n ≡ Some x → slice_get ys n ≡ Some y → Beside x y xs ys
beside_at [] ys n x y e f = absurd (cc)
beside_at (a ∷ xs) [] n x y e f = absurd (cc)
beside_at (a ∷ xs) (b ∷ ys) zero x y e f = let z : a ≡ x = cc in let w : b ≡ y = cc in subst (λ u. Beside u y (a ∷ xs) (b ∷ ys)) z (subst (λ v. Beside a v (a ∷ xs) (b ∷ ys)) w beside_here)
beside_at (a ∷ xs) (b ∷ ys) (suc n) x y e f = beside_there (beside_at xs ys n x y e f)

-- what stands at a place tells there what the whole tells
told_below : (r : Reader) (place : Path) (c : Claim) → Tells (below_place place r) c → Tells r (at place c)
told_below r place _ (tells_exists p n e) = tells_exists (place ++ p) n e
told_below r place _ (tells_same p q n e f) = tells_same (place ++ p) (place ++ q) n e f
told_below r place _ (tells_below p n e) = tells_below (place ++ p) n e

-- what stands at a place of a rule, and a daughter, as two structures alone
abbrev two : Reader → Path → Reader → Source
two rule place daughter = record { claims = []; parts = record { place = []; reader = below_place place rule } ∷ record { place = []; reader = daughter } ∷ [] }

module _ (g : Grammar) (rules : List PhraseRule) (d r : Cut) (pr : PhraseRule) (is : IsRuleIn g pr) (checks : List Path) (s : Shape) (belongs : BelongsIn g r checks s) (place : Path) (ms : List Structure)
    (stands : Beside place (meaning_in g s) (places_of pr) ms) where
  abbrev told : Claim → Type 0
  told = Parts (paths_in g) (rule_of g pr) ms

  -- the rule with its daughters claims, at that place, what the two claim
  claimed : (c : Claim) → Told (two (reader_of pr.structure.now) place (reader_of (graph_of s))) c → Closure (system_of g) told (at place c)
  claimed c (told_claim _ h) = elim h [ ]
  claimed _ (told_part part c here a) =
      let ps = paths_in g in
      let rule = reader_of pr.structure.now in
      let says = tells_says (system_of g) ps rule (inside g pr.structure.now is.structure_in) (at place c) (told_below rule place c a) in
      subst (λ x. Closure (system_of g) told (at place x)) (sym (at_root c)) (grows (system_of g) (λ x h. given_claim x (of_rule x ((said_is_says ps (view ps rule) x).1 h))) says)
  claimed _ (told_part part c (there here) a) =
      let ps = paths_in g in
      let daughter = reader_of (graph_of s) in
      let says = tells_says (system_of g) ps daughter (inside g (graph_of s) belongs.short) c a in
      subst (λ x. Closure (system_of g) told (at place x)) (sym (at_root c)) (moved (system_of g) place (λ x h. given_claim (at place x) (of_daughter place (meaning_in g s) x stands h)) says)
  claimed _ (told_part part c (there (there h)) a) = elim h [ ]

  -- so the two unify where the rule has a structure
  pub unify_where : AreConsistent (system_of g) (Closure (system_of g) told) → AreConsistent (system_of g) (Closure (system_of g) (Told (two (reader_of pr.structure.now) place (reader_of (graph_of s)))))
  unify_where ok = record {
    typed = λ p t u a b. ok.typed (place ++ p) t u (moved (system_of g) place claimed a) (moved (system_of g) place claimed b);
    bounded = λ p a. let z = ok.bounded (place ++ p) (moved (system_of g) place claimed a) in let n = length-append place p in omega (arith, z, n);
  }

-- where no two structures unify that have the sketches of what the rule has at a daughter's place and of the daughter, the rule
-- applies to no tuple that begins with these daughters
pub none_refused : (g : Grammar) (rules : List PhraseRule) (d r : Cut) (checks : List Path) (rule : ℕ) (pr : PhraseRule) → slice_get rules rule ≡ Some pr → IsRuleIn g pr →
    (ss : List Shape) → All (BelongsIn g r checks) ss → (k : ℕ) (place : Path) (s : Shape) → slice_get (places_of pr) k ≡ Some place → slice_get ss k ≡ Some s →
    NoneUnify g.types (sketch_of (below_place place (reader_of pr.structure.now)) checks) (sketch_of (reader_of (graph_of s)) checks) →
    (rest : List Structure) → AppliesAt (system_in g rules d r) (slice_get (map (rule_of g) rules) rule) (map (meaning_in g) ss ++ rest) → ⊥
none_refused g rules d r checks rule pr at is ss all k place s place_at shape_at none rest ok =
    let sys = system_in g rules d r in
    let ms = map (meaning_in g) ss in
    let stands = beside_begins sys rest (beside_at (places_of pr) ms k place (meaning_in g s) place_at (map_get (meaning_in g) ss k s shape_at)) in
    let belongs = rule_at (BelongsIn g r checks) ss k s shape_at all in
    let rule_stands = below_place place (reader_of pr.structure.now) in
    none (system_of g) rule_stands (reader_of (graph_of s)) (λ t u. refl) (has_own rule_stands checks) (has_own (reader_of (graph_of s)) checks)
    (unify_where g rules d r pr is checks s belongs place (ms ++ rest) stands (rw (map_get (rule_of g) rules rule pr at) at ok))
