-- An MRS has one answer: what its rules contribute is fixed for the rules that there are.
use Rattle.std.specs.Prelude.{ℕ, ◌≡◌, ◌<◌, Option, Some, List, length, slice_get}
use Rattle.std.proofs.Common.{sym, ◌∙◌, ap, arith}
use Rattle.chart_model.specs.declared.counts.Counts.{Counts}
use Rattle.chart_model.specs.Limits.{UnaryChain, Edges, Within}
use Rattle.derivation.specs.Trees.{Derivation}
use Rattle.tree_model.specs.Mothers.{Rule}
use Rattle.tree_model.specs.Signs.{Signs, rule_system, placed_rules, place_at}
use Rattle.tree_model.specs.Lexical.{Words}
use Rattle.tree_model.specs.Items.{LeafTree, AreLeaves, Limits, calculus, leaves_from, chart_limits}
use Rattle.tree_model.proofs.Places.{get_found, place_of}
use Rattle.generate_model.specs.Bags.{counted, distinct, bound_of}
use Rattle.generate_model.specs.Covers.{counts_all}
use Rattle.generate_model.specs.Contributions.{asked_of}
use Rattle.generate_model.specs.Realizations.{Asked, IsTold, IsCovering, IsGenLeaf, IsGenTooDeep, gen_item}
use Rattle.generate_model.specs.Sentences.{GenAnswer, LexicalDepth, ByUnaryChain, ByEdges, Readings, Sentences, IsGenAnswer, IsGenAnswerOver}
use Rattle.generate_model.specs.Laws.{GenAnswersAreOne}
use Rattle.mrs_generate.specs.Laws.{SentenceAnswersAreOne}
use Rattle.mrs_generate.proofs.Lists.{map_length}
use Rattle.mrs_generate.proofs.Extended.{Covering, limit_answer, class_count}

module _ (g : Signs) (words : Words) (asked : Asked) (most_rules most_empty : ℕ) where
  covering_to : (own other : ℕ → Option Counts) (t : Derivation) (c : Counts) → IsCovering g words asked most_rules most_empty own t c → IsCovering g words asked most_rules most_empty other t c
  covering_to own other t c x = record { structure = x.structure; full = x.full; contributed = x.contributed; says = x.says; is = x.is }

  leaf_to : (own other : ℕ → Option Counts) (t : Derivation) → IsGenLeaf g words asked most_rules most_empty own t → IsGenLeaf g words asked most_rules most_empty other t
  leaf_to own other t x = record { leaf = x.leaf; cover = x.cover; covering = covering_to own other t x.cover x.covering; within = x.within; few = x.few }

  deep_to : (own other : ℕ → Option Counts) → IsGenTooDeep g words asked most_rules most_empty own → IsGenTooDeep g words asked most_rules most_empty other
  deep_to own other x = record { tree = x.tree; is = x.is; deep = x.deep; structure = x.structure; full = x.full; contributed = x.contributed; says = x.says; lies = x.lies }

  leaves_to : (own other : ℕ → Option Counts) (ls : List (LeafTree Counts)) → AreLeaves g (gen_item g words asked most_rules most_empty own) ls → AreLeaves g (gen_item g words asked most_rules most_empty other) ls
  leaves_to own other ls x = record {
    each = λ n l at. let y = x.each n l at in record { leaf = leaf_to own other l.tree y.leaf; covered = covering_to own other l.tree l.cover y.covered; full = y.full; abstract = y.abstract };
    all = λ t leaf. x.all t (leaf_to other own t leaf);
    once = x.once;
  }

  -- what the counts of rules make of daughters, by number
  abbrev covers_by : (ℕ → Option Counts) → ℕ → List Counts → Option Counts
  covers_by own rule cs = counts_all (bound_of asked.bag most_empty) (own (place_at (slice_get (placed_rules g) rule))) cs

  module _ (own other : ℕ → Option Counts) (one : IsTold g asked own) (two : IsTold g asked other) where
    -- counts of a rule that is there are the same
    same_own : (rule : ℕ) → rule < length (rule_system g).rules → own (place_at (slice_get (placed_rules g) rule)) ≡ other (place_at (slice_get (placed_rules g) rule))
    same_own rule low =
        let r = get_found (placed_rules g) rule (let e = map_length (λ (r : ℕ × Rule). r.1) (placed_rules g) in omega (arith, low, e)) in
        let p = place_of 0 rule g.instances r.0 r.1 in
        let at : slice_get g.instances r.0.0 ≡ Some p.instance = ap (slice_get g.instances) (p.place_is ∙ omega arith) ∙ p.at in
        let x = one.owns r.0.0 p.instance at p.kind in
        let y = two.owns r.0.0 p.instance at p.kind in
        let same : own r.0.0 ≡ other r.0.0 = x.2 ∙ ap (λ ws. counted (distinct asked.bag) ws 0) (one.one_gives r.0.0 x.0 y.0 x.1 y.1) ∙ sym y.2 in
        ap (λ z. own (place_at z)) r.1 ∙ same ∙ sym (ap (λ z. other (place_at z)) r.1)

    same_covers : Covering (calculus g (gen_item g words asked most_rules most_empty own)) (covers_by own) (covers_by other)
    same_covers rule cs low = ap (λ c. counts_all (bound_of asked.bag most_empty) c cs) (same_own rule low)

    -- so is the answer over leaves
    over_to : (limits : Limits) (ls : List (LeafTree Counts)) (a : GenAnswer) → IsGenAnswerOver g words asked most_rules most_empty own limits ls a → IsGenAnswerOver g words asked most_rules most_empty other limits ls a
    over_to limits ls LexicalDepth x = x
    over_to limits ls ByUnaryChain x = (x.0, limit_answer (calculus g (gen_item g words asked most_rules most_empty own)) (chart_limits limits) (leaves_from 0 ls) (covers_by own) (covers_by other) same_covers (UnaryChain x.0) x.1)
    over_to limits ls ByEdges x = (x.0, limit_answer (calculus g (gen_item g words asked most_rules most_empty own)) (chart_limits limits) (leaves_from 0 ls) (covers_by own) (covers_by other) same_covers (Edges x.0) x.1)
    over_to limits ls Readings x = (limit_answer (calculus g (gen_item g words asked most_rules most_empty own)) (chart_limits limits) (leaves_from 0 ls) (covers_by own) (covers_by other) same_covers Within x.0, x.1)
    over_to limits ls (Sentences n ss) x = (
      limit_answer (calculus g (gen_item g words asked most_rules most_empty own)) (chart_limits limits) (leaves_from 0 ls) (covers_by own) (covers_by other) same_covers Within x.0,
      class_count (calculus g (gen_item g words asked most_rules most_empty own)) (chart_limits limits) (leaves_from 0 ls) (covers_by own) (covers_by other) same_covers n x.1,
      x.2,
      x.3,
    )

    answer_to : (limits : Limits) (a : GenAnswer) → IsGenAnswer g words asked most_rules most_empty own limits a → IsGenAnswer g words asked most_rules most_empty other limits a
    answer_to limits LexicalDepth x = deep_to own other x
    answer_to limits ByUnaryChain x = ((λ d. x.0 (deep_to other own d)), (x.1.0, leaves_to own other x.1.0 x.1.1, over_to limits x.1.0 ByUnaryChain x.1.2))
    answer_to limits ByEdges x = ((λ d. x.0 (deep_to other own d)), (x.1.0, leaves_to own other x.1.0 x.1.1, over_to limits x.1.0 ByEdges x.1.2))
    answer_to limits Readings x = ((λ d. x.0 (deep_to other own d)), (x.1.0, leaves_to own other x.1.0 x.1.1, over_to limits x.1.0 Readings x.1.2))
    answer_to limits (Sentences n ss) x = ((λ d. x.0 (deep_to other own d)), (x.1.0, leaves_to own other x.1.0 x.1.1, over_to limits x.1.0 (Sentences n ss) x.1.2))

pub sentence_answers_are_one : GenAnswersAreOne → SentenceAnswersAreOne
sentence_answers_are_one ones g o words input most_rules most_empty limits a b x y =
    ones g o words input most_rules most_empty y.0 y.1 limits a b (answer_to g words (asked_of g input) most_rules most_empty x.0 y.0 x.1 y.1 limits a x.2) y.2
