-- Full structures without those that are dropped: what fits and what is found is as with them.
use Rattle.std.specs.Prelude.{ℕ, ◌≡◌, ◌↔◌, Option, IfSome, List, map}
use Rattle.std.proofs.Common.{◌∙◌, sym, ap, subst}
use Rattle.chart_model.specs.Calculus.{Calculus}
use Rattle.chart_model.specs.declared.counts.Counts.{Counts}
use Rattle.chart_model.specs.Chart.{Leaf, Limits}
use Rattle.chart_core.specs.declared.Leaf as declared_leaf
use Rattle.chart_core.specs.declared.Limits as declared
use Rattle.chart_core.specs.Kept.{limits_seen}
use Rattle.chart_core.specs.Leaves.{leaf_seen}
use Rattle.derivation.specs.Trees.{Derivation}
use Rattle.tree_model.specs.Readings.{Wholes, IsAccepted, AreAllAccepted, AreMoreThan}
use Rattle.fs_model.specs.Claims.{IsOrder}
use Rattle.tree_model.specs.Structures.{Structure}
use Rattle.tree_model.specs.Mothers.{RuleSystem, Agrees}
use Rattle.tree_model.specs.Laws.{rules_full}
use Rattle.tree_model.specs.Signs.{rule_system}
use Rattle.tree_model.specs.Lexical.{Words}
use Rattle.packed_items.specs.Packed.{Fit, IsFound}
use Rattle.packed_items.specs.declared.Found.{Found}
use Rattle.packed_items.specs.declared.Found.TheVariants as found
use Rattle.mrs_model.specs.Meanings.{Meaning}
use Rattle.mrs_places.specs.Paths.{Feature, Paths}
use Rattle.mrs_extract.specs.Asked.{ArePaths}
use Rattle.book_signs.specs.Trees.{SignTree, signs_of}
use Rattle.grammar_shapes.specs.declared.shapes.GrammarShapes.{GrammarShapes}
use Rattle.grammar_shapes.specs.Shaped.{Shape}
use Rattle.grammar_shapes.specs.Systems.{rules_of, meaning_of}
use Rattle.grammar_rules.specs.Lines.{AreShapesOf}
use Rattle.generated_leaves.specs.declared.shapes.CountedShapes.{CountedShapes}
use Rattle.generated_leaves.specs.Counted.{count_calculus, own_at}
use Rattle.generated_leaves.specs.CountedViews.{shapes_in, bound_in, own_in}
use Rattle.generate_model.specs.Contributions.{Input}
use Rattle.generate_model.specs.Pruning.{pruned}
use Rattle.generated_leaves.specs.Leaves.{WordLeaf}
use Rattle.realized_trees.specs.Laws.{bare, WhollyAccepted}
use Rattle.realized_trees.specs.Wholes.{wholes_of, IsLeafAt}
use Rattle.realized_trees.specs.declared.sifting.Sieve.{Sieve}
use Rattle.realized_trees.specs.Sieves.{IsSieve, MayDrop, sifted}
use Rattle.realized_trees.specs.PrunedLaws.{SievesAreExact}
use Rattle.generated_leaves.specs.Given.{input_of}
use Rattle.generated_leaves.specs.Laws.{OwnsAgree}
use Rattle.rule_trees.specs.Wholes.{IsRuled}
use Rattle.mrs_generate.specs.Inner.Known.{IsKnown}
use Rattle.mrs_generate.specs.Inner.Lined.{AreLined}
use Rattle.mrs_generate.proofs.Calls.{AreCounted, over_fit}

module _ {M C V F : Type 0} (k : Calculus M C) (w : Wholes V C) (dropped : V → Type 0) (full : ℕ → List F → F → Type 0) (agrees : M → F → Type 0) where
  pub fit_pruned : (named : ℕ → Type 0) (ruled : ℕ → ℕ → Type 0) (leaves : List (Leaf M C)) → Fit k full agrees w named ruled leaves → Fit k full agrees (pruned w dropped) named ruled leaves
  fit_pruned named ruled leaves h = record {
    agree = record { seen = h.agree.seen; keeps = λ rule vs v x. h.agree.keeps rule vs v x.0; leaf_agrees = h.agree.leaf_agrees };
    apart = record {
      leaves_apart = h.apart.leaves_apart;
      lexical_leaves = h.apart.lexical_leaves;
      places_apart = h.apart.places_apart;
      one_full = λ rule vs v u x y. h.apart.one_full rule vs v u x.0 y.0;
    };
    names = h.names;
    rules = h.rules;
  }

  module _ (limits : Limits) (leaves : List (Leaf M C)) (same : (t : Derivation) → IsAccepted k (pruned w dropped) limits leaves t ↔ IsAccepted k w limits leaves t) where
    all_same : (ts : List Derivation) → AreAllAccepted k (pruned w dropped) limits leaves ts → AreAllAccepted k w limits leaves ts
    all_same ts h = record { each = λ t c. (same t).0 (h.each t c); all = λ t a. h.all t ((same t).1 a); in_order = h.in_order }

    more_same : (max : ℕ) → AreMoreThan k (pruned w dropped) limits leaves max → AreMoreThan k w limits leaves max
    more_same max h = record { some = h.some; many = h.many; each = λ t c. (same t).0 (h.each t c); in_order = h.in_order }

  pub found_pruned : (limits : declared.Limits) (leaves : List (Leaf M C)) → ((t : Derivation) → IsAccepted k (pruned w dropped) (limits_seen limits) leaves t ↔ IsAccepted k w (limits_seen limits) leaves t) →
      (r : Found) → IsFound k full agrees (pruned w dropped) limits leaves r → IsFound k full agrees w limits leaves r
  found_pruned limits leaves same (found.UnaryChain) f = f
  found_pruned limits leaves same (found.Edges) f = f
  found_pruned limits leaves same (found.Readings) f = (f.0, more_same (limits_seen limits) leaves same _ f.1)
  found_pruned limits leaves same (found.Trees classes trees) f = (f.0, f.1, all_same (limits_seen limits) leaves same _ f.2, f.3)

module _ {X W B : Type 0} (t : SignTree) (s : GrammarShapes) (are : AreShapesOf t s) (o : IsOrder (signs_of t).system) (words : Words) (p : Paths) (c_cont : List Feature) (meaning : Meaning) (limits : declared.Limits) (own : List (Option Counts)) (bound : Counts) (xs : List WordLeaf)
    (known : IsKnown (signs_of t) words (input_of t.book.system.types p c_cont meaning) limits own bound xs) (agree : OwnsAgree) (whole : WhollyAccepted) (leaves : List (declared_leaf.Leaf X Shape Counts W B)) (lined : AreLined (signs_of t) (meaning_of s) xs leaves)
    (r : CountedShapes) (counted : AreCounted s bound own r) (exact : SievesAreExact) (paths : ArePaths t.book.system.types p) (sieve : Option Sieve) (is : IfSome sieve (IsSieve t p meaning xs)) where
  abbrev input : Input
  input = input_of t.book.system.types p c_cont meaning

  abbrev rules : RuleSystem
  rules = rules_of (shapes_in r)

  abbrev all : Wholes Structure Counts
  all = wholes_of (signs_of t) (bare input) bound xs

  abbrev over : Calculus Structure Counts
  over = count_calculus rules (bound_in r) (own_at (own_in r))

  abbrev seen : List (Leaf Structure Counts)
  seen = map (leaf_seen (meaning_of (shapes_in r))) leaves

  fit : Fit over (rules_full rules) (Agrees rules) all (IsLeafAt (signs_of t) xs) (IsRuled (signs_of t)) seen
  fit = over_fit t s are o words input limits own bound xs known agree whole leaves lined r counted

  pub sifted_fit : Fit over (rules_full rules) (Agrees rules) (sifted t p sieve all) (IsLeafAt (signs_of t) xs) (IsRuled (signs_of t)) seen
  sifted_fit = fit_pruned over all (MayDrop t p sieve) (rules_full rules) (Agrees rules) (IsLeafAt (signs_of t) xs) (IsRuled (signs_of t)) seen fit

  same_rules : rules ≡ rule_system (signs_of t)
  same_rules = ap rules_of counted.shapes ∙ are.rules

  abbrev Known : Type 0
  Known = RuleSystem × Counts

  same_known : (let z : Known = (rule_system (signs_of t), bound) in z) ≡ (rules, bound_in r)
  same_known = λ i. (sym same_rules i, sym counted.bound_is i)

  same_accepted : (tree : Derivation) → IsAccepted over (sifted t p sieve all) (limits_seen limits) seen tree ↔ IsAccepted over all (limits_seen limits) seen tree
  same_accepted tree =
      subst (λ (z : Known). IsAccepted (count_calculus z.0 z.1 (own_at (own_in r))) (sifted t p sieve all) (limits_seen limits) seen tree ↔ IsAccepted (count_calculus z.0 z.1 (own_at (own_in r))) all (limits_seen limits) seen tree) same_known
      (exact t p meaning xs sieve o paths is bound (own_at (own_in r)) (limits_seen limits) seen (λ n leaf a. fit.names n leaf a) tree)

  -- what is found without what is dropped is what is found
  pub unsifted : (f : Found) → IsFound over (rules_full rules) (Agrees rules) (sifted t p sieve all) limits seen f → IsFound over (rules_full rules) (Agrees rules) all limits seen f
  unsifted f h = found_pruned over all (MayDrop t p sieve) (rules_full rules) (Agrees rules) limits seen same_accepted f h
