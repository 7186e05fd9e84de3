-- What is asked of the full structures over known leaves, and what is found over these, with the answer that it is.
use Rattle.std.specs.Prelude.{ℕ, ◌≡◌, ◌<◌, ◌↔◌, Option, List, length, map, slice_get}
use Rattle.std.proofs.Common.{sym, ◌∙◌, ap, subst}
use Rattle.fs_model.specs.Claims.{IsOrder}
use Rattle.chart_model.specs.Calculus.{Calculus}
use Rattle.chart_model.specs.declared.counts.Counts.{Counts}
use Rattle.chart_model.specs.At.{at_found, to_get}
use Rattle.chart_core.specs.declared.Leaf.{Leaf}
use Rattle.chart_core.specs.declared.Limits.{Limits}
use Rattle.chart_core.specs.Leaves.{leaf_seen}
use Rattle.derivation.specs.Views.{derivation_of}
use Rattle.tree_model.specs.Readings.{Wholes}
use Rattle.tree_model.specs.Structures.{Structure}
use Rattle.tree_model.specs.Mothers.{Agrees}
use Rattle.tree_model.specs.Laws.{rules_full}
use Rattle.tree_model.specs.Signs.{Signs, rule_system, placed_rules, place_at}
use Rattle.tree_model.specs.Lexical.{Words}
use Rattle.tree_model.specs.Items.{Item, IsItem, LeafTree, AreLeaves, calculus, leaves_from}
use Rattle.tree_model.specs.Forests as item
use Rattle.packed_items.specs.Packed.{Fit, IsFound}
use Rattle.packed_items.specs.Answers.{limits_in, answer_of}
use Rattle.packed_items.specs.declared.Found.{Found}
use Rattle.packed_items.specs.declared.Found.TheVariants as found
use Rattle.packed_items.proofs.Items.{fit_item, found_item}
use Rattle.generate_model.specs.Contributions.{Input, asked_of}
use Rattle.generate_model.specs.Realizations.{IsGenAccepted, gen_item}
use Rattle.generate_model.specs.Sentences.{GenAnswer, IsGenFound}
use Rattle.generate_model.proofs.Told.{inputs_are_items, found_is_gen_answer}
use Rattle.generated_leaves.specs.Counted.{count_calculus, own_at}
use Rattle.rule_trees.specs.Wholes.{IsRuled}
use Rattle.generated_leaves.specs.Placed.{own_by_place}
use Rattle.generated_leaves.specs.Leaves.{WordLeaf}
use Rattle.realized_trees.specs.Laws.{bare}
use Rattle.realized_trees.specs.Wholes.{wholes_of, IsLeafAt}
use Rattle.mrs_generate.specs.Answers.{IsSentenceAnswer}
use Rattle.mrs_generate.specs.Inner.Known.{IsKnown}
use Rattle.mrs_generate.specs.Inner.Leafed.{leaf_trees}
use Rattle.mrs_generate.specs.Inner.Lined.{shapes_in, AreLined}
use Rattle.mrs_generate.specs.Inner.Put.{IsPut}
use Rattle.mrs_generate.proofs.Calculi.{calculus_same}
use Rattle.mrs_generate.proofs.Leafed.{are_leaves}
use Rattle.mrs_generate.proofs.Lined.{trees_length}
use Rattle.mrs_generate.proofs.Swapped.{accepting, fit_back, found_to}
use Rattle.mrs_generate.proofs.Wholes.{wholes_same}

-- the counts of rules by place are those by number
abbrev pub Agreeing : Signs → List (Option Counts) → Type 0
Agreeing g own = (rule : ℕ) → own_by_place g own (place_at (slice_get (placed_rules g) rule)) ≡ own_at own rule

module _ {X T W B : Type 0} (g : Signs) (o : IsOrder g.system) (words : Words) (input : Input) (limits : Limits) (own : List (Option Counts)) (bound : Counts) (xs : List WordLeaf) (known : IsKnown g words input limits own bound xs) (agree : Agreeing g own) (meaning : T → Structure) (leaves : List (Leaf X T Counts W B)) (lined : AreLined g meaning xs leaves) where
  abbrev theirs : Item Counts
  theirs = gen_item g words (asked_of g input) limits.lexical limits.empty (own_by_place g own)

  good : IsItem theirs
  good = (inputs_are_items g o words input limits.lexical limits.empty (own_by_place g own) known.told).0

  abbrev trees : List (LeafTree Counts)
  trees = leaf_trees xs (shapes_in g meaning leaves)

  trees_are : AreLeaves g theirs trees
  trees_are = are_leaves g words (asked_of g input) limits.lexical limits.empty (own_by_place g own) xs (shapes_in g meaning leaves) known.leaves lined.shaped

  -- the calculus of the chart is the item's
  same_rules : calculus g theirs ≡ count_calculus (rule_system g) bound (own_at own)
  same_rules = calculus_same g words (asked_of g input) limits.lexical limits.empty (own_by_place g own) own agree ∙ ap (λ b. count_calculus (rule_system g) b (own_at own)) (sym known.bound_is)

  named_leaf : (n : ℕ) → n < length trees → IsLeafAt g xs n
  named_leaf n low =
      let x = at_found xs n (subst (λ k. n < k) (trees_length g lined.shaped) low) in
      record { leaf = x.0; at = to_get x.1; full = (known.leaves.each n x.0 x.1).full }

  module _ (accepts : (f : Structure) (c : Counts) → (wholes_of g (bare input) bound xs).accepted f c ↔ IsGenAccepted g words (asked_of g input) limits.lexical limits.empty (own_by_place g own) f c) where
    abbrev fulls : Wholes Structure Counts
    fulls = wholes_of g (bare input) bound xs

    same_wholes : accepting fulls (IsGenAccepted g words (asked_of g input) limits.lexical limits.empty (own_by_place g own)) ≡ item.wholes g theirs (limits_in limits) trees
    same_wholes = wholes_same g words (asked_of g input) limits.lexical limits.empty (own_by_place g own) (limits_in limits) (bare input) bound lined.shaped

    pub known_fit : Fit (count_calculus (rule_system g) bound (own_at own)) (rules_full (rule_system g)) (Agrees (rule_system g)) fulls (IsLeafAt g xs) (IsRuled g) (map (leaf_seen meaning) leaves)
    known_fit =
        let named : ℕ → Type 0 = λ n. n < length trees in
        let f = fit_item theirs g o good limits trees trees_are in
        let h = subst (λ w. Fit (calculus g theirs) (rules_full (rule_system g)) (Agrees (rule_system g)) w named (IsRuled g) (leaves_from 0 trees)) (sym same_wholes) f in
        let b = fit_back (calculus g theirs) fulls (IsGenAccepted g words (asked_of g input) limits.lexical limits.empty (own_by_place g own)) accepts (rules_full (rule_system g)) (Agrees (rule_system g)) named (IsRuled g) (leaves_from 0 trees) h in
        let n : Fit (calculus g theirs) (rules_full (rule_system g)) (Agrees (rule_system g)) fulls (IsLeafAt g xs) (IsRuled g) (leaves_from 0 trees) =
        record { agree = b.agree; apart = b.apart; names = λ l leaf a. named_leaf leaf.name (b.names l leaf a); rules = b.rules } in
        subst (λ (k : Calculus Structure Counts). Fit k (rules_full (rule_system g)) (Agrees (rule_system g)) fulls (IsLeafAt g xs) (IsRuled g) (map (leaf_seen meaning) leaves)) same_rules
        (subst (Fit (calculus g theirs) (rules_full (rule_system g)) (Agrees (rule_system g)) fulls (IsLeafAt g xs) (IsRuled g)) (sym lined.seen) n)

    -- what is found over the leaves, as the item knows it
    known_found : (r : Found) → IsFound (count_calculus (rule_system g) bound (own_at own)) (rules_full (rule_system g)) (Agrees (rule_system g)) fulls limits (map (leaf_seen meaning) leaves) r → item.IsFound g theirs (limits_in limits) trees (answer_of r)
    known_found r f =
        let a = subst (λ ls. IsFound (count_calculus (rule_system g) bound (own_at own)) (rules_full (rule_system g)) (Agrees (rule_system g)) fulls limits ls r) lined.seen f in
        let b = subst (λ (k : Calculus Structure Counts). IsFound k (rules_full (rule_system g)) (Agrees (rule_system g)) fulls limits (leaves_from 0 trees) r) (sym same_rules) a in
        let c = found_to (calculus g theirs) fulls (IsGenAccepted g words (asked_of g input) limits.lexical limits.empty (own_by_place g own)) accepts (rules_full (rule_system g)) (Agrees (rule_system g)) limits (leaves_from 0 trees) r b in
        found_item theirs g o good limits trees trees_are r (subst (λ w. IsFound (calculus g theirs) (rules_full (rule_system g)) (Agrees (rule_system g)) w limits (leaves_from 0 trees) r) same_wholes c)

    -- and put together by texts
    known_put : (r : Found) (a : GenAnswer) → item.IsFound g theirs (limits_in limits) trees (answer_of r) → IsPut r a → IsGenFound g words (asked_of g input) limits.lexical limits.empty (own_by_place g own) (limits_in limits) trees a
    known_put (found.UnaryChain) a f p = subst (IsGenFound g words (asked_of g input) limits.lexical limits.empty (own_by_place g own) (limits_in limits) trees) (sym p) f
    known_put (found.Edges) a f p = subst (IsGenFound g words (asked_of g input) limits.lexical limits.empty (own_by_place g own) (limits_in limits) trees) (sym p) f
    known_put (found.Readings) a f p = subst (IsGenFound g words (asked_of g input) limits.lexical limits.empty (own_by_place g own) (limits_in limits) trees) (sym p) f
    known_put (found.Trees classes ts) a f p = subst (IsGenFound g words (asked_of g input) limits.lexical limits.empty (own_by_place g own) (limits_in limits) trees) (sym p.1) (map derivation_of ts.items, f, p.2)

    pub known_answer : (r : Found) (a : GenAnswer) → IsFound (count_calculus (rule_system g) bound (own_at own)) (rules_full (rule_system g)) (Agrees (rule_system g)) fulls limits (map (leaf_seen meaning) leaves) r → IsPut r a →
        IsSentenceAnswer g words input limits.lexical limits.empty (limits_in limits) a
    known_answer r a f p =
        (own_by_place g own, known.told, found_is_gen_answer g o words input limits.lexical limits.empty (own_by_place g own) known.told (limits_in limits) known.flat trees trees_are a (known_put r a (known_found r f) p))
