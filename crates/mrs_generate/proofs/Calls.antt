-- What is known of an input, by the shapes that a chart is made over.
use Rattle.std.specs.Prelude.{ℕ, ◌≡◌, ◌↔◌, All, Option, List, map}
use Rattle.std.proofs.Common.{sym, ◌∙◌, ap, subst}
use Rattle.chart_model.specs.declared.counts.Counts.{Counts}
use Rattle.chart_model.specs.Chart as chart
use Rattle.chart_core.specs.declared.Leaf.{Leaf}
use Rattle.chart_core.specs.declared.Limits.{Limits}
use Rattle.chart_core.specs.Leaves.{leaf_seen, LeafBelongs}
use Rattle.tree_model.specs.Readings.{Wholes}
use Rattle.tree_model.specs.Structures.{Structure}
use Rattle.tree_model.specs.Mothers.{RuleSystem, Agrees}
use Rattle.tree_model.specs.Laws.{rules_full}
use Rattle.fs_model.specs.Claims.{IsOrder}
use Rattle.tree_model.specs.Signs.{rule_system}
use Rattle.tree_model.specs.Lexical.{Words}
use Rattle.packed_items.specs.Packed.{Fit, IsFound}
use Rattle.packed_items.specs.Answers.{limits_in}
use Rattle.packed_items.specs.declared.Found.{Found}
use Rattle.packed_items.specs.declared.Found.TheVariants as found
use Rattle.book_signs.specs.Trees.{SignTree, signs_of}
use Rattle.grammar_shapes.specs.declared.shapes.GrammarShapes.{GrammarShapes}
use Rattle.grammar_shapes.specs.Shaped.{Shape}
use Rattle.grammar_shapes.specs.Systems.{rules_of, meaning_of, Belongs}
use Rattle.grammar_rules.specs.Lines.{AreShapesOf}
use Rattle.generated_leaves.specs.declared.shapes.CountedShapes.{CountedShapes}
use Rattle.generated_leaves.specs.Counted.{count_calculus, own_at}
use Rattle.generated_leaves.specs.CountedViews.{shapes_in, bound_in, own_in}
use Rattle.generate_model.specs.Contributions.{Input, asked_of}
use Rattle.generate_model.specs.Realizations.{IsGenAccepted}
use Rattle.generate_model.specs.Sentences.{GenAnswer}
use Rattle.generated_leaves.specs.Leaves.{WordLeaf}
use Rattle.realized_trees.specs.Laws.{bare, WhollyAccepted}
use Rattle.realized_trees.specs.Wholes.{wholes_of, IsLeafAt}
use Rattle.generated_leaves.specs.Laws.{OwnsAgree}
use Rattle.generated_leaves.specs.Placed.{own_by_place}
use Rattle.rule_trees.specs.Wholes.{IsRuled}
use Rattle.mrs_generate.specs.Answers.{IsSentenceAnswer}
use Rattle.mrs_generate.specs.Inner.Known.{IsKnown}
use Rattle.mrs_generate.specs.Inner.Lined.{AreLined, MayStand}
use Rattle.mrs_generate.specs.Inner.Put.{InOrder, IsPut}
use Rattle.mrs_generate.proofs.Answered.{known_fit, known_answer}

-- shapes of a grammar over this bound and what rules contribute
pub record AreCounted (s : GrammarShapes) (bound : Counts) (own : List (Option Counts)) (r : CountedShapes) : Type 0 where
  pub shapes : shapes_in r ≡ s
  pub bound_is : bound_in r ≡ bound
  pub own_is : own_in r ≡ own

module _ (t : SignTree) (s : GrammarShapes) (are : AreShapesOf t s) (bound : Counts) (own : List (Option Counts)) (r : CountedShapes) (counted : AreCounted s bound own r) where
  same_system : rule_system (signs_of t) ≡ rules_of (shapes_in r)
  same_system = sym (ap rules_of counted.shapes ∙ are.rules)

  module _ {X W B : Type 0} (leaves : List (Leaf X Shape Counts W B)) where
    same_seen : map (leaf_seen (meaning_of s)) leaves ≡ map (leaf_seen (meaning_of (shapes_in r))) leaves
    same_seen = ap (λ k. map (leaf_seen (meaning_of k)) leaves) (sym counted.shapes)

    abbrev Known : Type 0
    Known = RuleSystem × Counts × List (Option Counts) × List (chart.Leaf Structure Counts)

    same_known : (let z : Known = (rule_system (signs_of t), bound, own, map (leaf_seen (meaning_of s)) leaves) in z) ≡ (rules_of (shapes_in r), bound_in r, own_in r, map (leaf_seen (meaning_of (shapes_in r))) leaves)
    same_known = λ i. (same_system i, sym counted.bound_is i, sym counted.own_is i, same_seen i)

    pub call_fit : (w : Wholes Structure Counts) (named : ℕ → Type 0) (ruled : ℕ → ℕ → Type 0) →
        Fit (count_calculus (rule_system (signs_of t)) bound (own_at own)) (rules_full (rule_system (signs_of t))) (Agrees (rule_system (signs_of t))) w named ruled (map (leaf_seen (meaning_of s)) leaves) →
        Fit (count_calculus (rules_of (shapes_in r)) (bound_in r) (own_at (own_in r))) (rules_full (rules_of (shapes_in r))) (Agrees (rules_of (shapes_in r))) w named ruled (map (leaf_seen (meaning_of (shapes_in r))) leaves)
    call_fit w named ruled h = subst (λ (z : Known). Fit (count_calculus z.0 z.1 (own_at z.2)) (rules_full z.0) (Agrees z.0) w named ruled z.3) same_known h

    pub call_found : (w : Wholes Structure Counts) (limits : Limits) (f : Found) →
        IsFound (count_calculus (rules_of (shapes_in r)) (bound_in r) (own_at (own_in r))) (rules_full (rules_of (shapes_in r))) (Agrees (rules_of (shapes_in r))) w limits (map (leaf_seen (meaning_of (shapes_in r))) leaves) f →
        IsFound (count_calculus (rule_system (signs_of t)) bound (own_at own)) (rules_full (rule_system (signs_of t))) (Agrees (rule_system (signs_of t))) w limits (map (leaf_seen (meaning_of s)) leaves) f
    call_found w limits f h = subst (λ (z : Known). IsFound (count_calculus z.0 z.1 (own_at z.2)) (rules_full z.0) (Agrees z.0) w limits z.3 f) (sym same_known) h

    pub call_belong : All (MayStand (Belongs s) bound) leaves → All (LeafBelongs (count_calculus (rules_of (shapes_in r)) (bound_in r) (own_at (own_in r))) (Belongs (shapes_in r))) leaves
    call_belong h = subst (λ (z : GrammarShapes × Counts). All (MayStand (Belongs z.0) z.1) leaves) (let e : (let y : GrammarShapes × Counts = (s, bound) in y) ≡ (shapes_in r, bound_in r) = (λ i. (sym counted.shapes i, sym counted.bound_is i)) in e) h

module _ {X W B : Type 0} (t : SignTree) (s : GrammarShapes) (are : AreShapesOf t s) (o : IsOrder (signs_of t).system) (words : Words) (input : Input) (limits : Limits) (own : List (Option Counts)) (bound : Counts) (xs : List WordLeaf) (known : IsKnown (signs_of t) words input limits own bound xs) (agree : OwnsAgree) (whole : WhollyAccepted) (leaves : List (Leaf X Shape Counts W B)) (lined : AreLined (signs_of t) (meaning_of s) xs leaves) (r : CountedShapes) (counted : AreCounted s bound own r) where
  accepts : (f : Structure) (c : Counts) → (wholes_of (signs_of t) (bare input) bound xs).accepted f c ↔ IsGenAccepted (signs_of t) words (asked_of (signs_of t) input) limits.lexical limits.empty (own_by_place (signs_of t) own) f c
  accepts f c = whole (signs_of t) words input limits.lexical limits.empty (own_by_place (signs_of t) own) bound (ap (λ (b : Counts). b.of) known.bound_is) xs f c

  pub over_fit : Fit (count_calculus (rules_of (shapes_in r)) (bound_in r) (own_at (own_in r))) (rules_full (rules_of (shapes_in r))) (Agrees (rules_of (shapes_in r))) (wholes_of (signs_of t) (bare input) bound xs) (IsLeafAt (signs_of t) xs) (IsRuled (signs_of t)) (map (leaf_seen (meaning_of (shapes_in r))) leaves)
  over_fit =
      call_fit t s are bound own r counted leaves (wholes_of (signs_of t) (bare input) bound xs) (IsLeafAt (signs_of t) xs) (IsRuled (signs_of t))
      (known_fit (signs_of t) o words input limits own bound xs known (agree (signs_of t) own known.even) (meaning_of s) leaves lined accepts)

  pub over_answer : (f : Found) (a : GenAnswer) → IsFound (count_calculus (rules_of (shapes_in r)) (bound_in r) (own_at (own_in r))) (rules_full (rules_of (shapes_in r))) (Agrees (rules_of (shapes_in r))) (wholes_of (signs_of t) (bare input) bound xs) limits (map (leaf_seen (meaning_of (shapes_in r))) leaves) f →
      IsPut f a → IsSentenceAnswer (signs_of t) words input limits.lexical limits.empty (limits_in limits) a
  over_answer f a h p =
      known_answer (signs_of t) o words input limits own bound xs known (agree (signs_of t) own known.even) (meaning_of s) leaves lined accepts f a
      (call_found t s are bound own r counted leaves (wholes_of (signs_of t) (bare input) bound xs) limits f h) p

  -- trees that are found stand in order
  pub over_order : (f : Found) → IsFound (count_calculus (rules_of (shapes_in r)) (bound_in r) (own_at (own_in r))) (rules_full (rules_of (shapes_in r))) (Agrees (rules_of (shapes_in r))) (wholes_of (signs_of t) (bare input) bound xs) limits (map (leaf_seen (meaning_of (shapes_in r))) leaves) f →
      InOrder f
  over_order (found.UnaryChain) h = tt
  over_order (found.Edges) h = tt
  over_order (found.Readings) h = tt
  over_order (found.Trees classes trees) h = h.2.in_order
