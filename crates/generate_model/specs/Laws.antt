-- What is proved of generation, for every grammar and input.
use Rattle.std.specs.Prelude.{ℕ, ◌≡◌, ◌↔◌, Option, Some, List, slice_get}
use Rattle.fs_model.specs.Claims.{IsOrder}
use Rattle.chart_model.specs.At.{At}
use Rattle.chart_model.specs.declared.counts.Counts.{Counts}
use Rattle.derivation.specs.Trees.{Derivation}
use Rattle.tree_model.specs.Readings.{IsAccepted}
use Rattle.tree_model.specs.Signs.{Signs, Instance, a_phrase_rule, rule_system}
use Rattle.tree_model.specs.Lexical.{Words}
use Rattle.tree_model.specs.Items.{IsItem, IsWanted, LeafTree, AreLeaves, Limits, calculus, leaves_from, chart_limits}
use Rattle.tree_model.specs.Forests.{wholes}
use Rattle.generate_model.specs.Bags.{Word, counted, distinct, preds_of}
use Rattle.generate_model.specs.Contributions.{Input, OwnContribution, asked_of}
use Rattle.generate_model.specs.Realizations.{IsRealization, IsTold, IsGenTooDeep, IsGenAccepted, IsCovering, IsGenLeaf, bound, gen_item}
use Rattle.generate_model.specs.Covers.{IsCount}
use Rattle.generate_model.specs.Sentences.{GenAnswer, IsGenAnswer, IsGenFound}
use Rattle.generate_model.specs.Threads.{Open}
use Rattle.generate_model.specs.Embedding.{IsOutside}
use Rattle.generate_model.specs.Threading.{AllThread, Fit, Hopeless}
use Rattle.generate_model.specs.Pruning.{pruned}

-- A structure and a rule say one list of predicates each; so what counts those of the rules is all that is to be told.
abbrev pub InputsAreTold : Type 0
InputsAreTold = (g : Signs) → IsOrder g.system → (input : Input) (own : ℕ → Option Counts) →
    ((rule : ℕ) (i : Instance) → slice_get g.instances rule ≡ Some i → i.kind ≡ a_phrase_rule →
    (ws : List Word) × OwnContribution g input rule ws × (own rule ≡ counted (distinct (preds_of input.meaning)) ws 0)) →
    IsTold g (asked_of g input) own

-- Generation is an item, and the trees that it asks for are the realizations.
abbrev pub InputsAreItems : Type 0
InputsAreItems = (g : Signs) → IsOrder g.system → (words : Words) (input : Input) (most_rules most_empty : ℕ) (own : ℕ → Option Counts) → IsTold g (asked_of g input) own →
    IsItem (gen_item g words (asked_of g input) most_rules most_empty own)
    × ((t : Derivation) → IsWanted g (gen_item g words (asked_of g input) most_rules most_empty own) t ↔ IsRealization g words (asked_of g input) most_rules most_empty t)

-- The cover of a leaf is one that a leaf may have.
abbrev pub LeavesAreCounted : Type 0
LeavesAreCounted = (g : Signs) → IsOrder g.system → (words : Words) (input : Input) (most_rules most_empty : ℕ) (own : ℕ → Option Counts) → IsTold g (asked_of g input) own → (t : Derivation) (c : Counts) →
    IsGenLeaf g words (asked_of g input) most_rules most_empty own t → IsCovering g words (asked_of g input) most_rules most_empty own t c →
    IsCount (bound g words (asked_of g input) most_rules most_empty own) c

-- Chart, unpacking and texts give the answer for generation.
abbrev pub FoundIsGenAnswer : Type 0
FoundIsGenAnswer = (g : Signs) → IsOrder g.system → (words : Words) (input : Input) (most_rules most_empty : ℕ) (own : ℕ → Option Counts) → IsTold g (asked_of g input) own → (limits : Limits) →
    (IsGenTooDeep g words (asked_of g input) most_rules most_empty own → ⊥) → (ls : List (LeafTree Counts)) → AreLeaves g (gen_item g words (asked_of g input) most_rules most_empty own) ls →
    (a : GenAnswer) → IsGenFound g words (asked_of g input) most_rules most_empty own limits ls a → IsGenAnswer g words (asked_of g input) most_rules most_empty own limits a

-- An input has one answer.
abbrev pub GenAnswersAreOne : Type 0
GenAnswersAreOne = (g : Signs) → IsOrder g.system → (words : Words) (input : Input) (most_rules most_empty : ℕ) (own : ℕ → Option Counts) → IsTold g (asked_of g input) own → (limits : Limits) →
    (a b : GenAnswer) → IsGenAnswer g words (asked_of g input) most_rules most_empty own limits a → IsGenAnswer g words (asked_of g input) most_rules most_empty own limits b → a ≡ b

-- Where each phrase rule threads and each leaf's list reaches its end, unpacking may drop each hopeless structure, and lists the same trees.
abbrev pub HopelessFall : Type 0
HopelessFall = (g : Signs) (words : Words) (input : Input) (most_rules most_empty : ℕ) (own : ℕ → Option Counts) (limits : Limits) (ls : List (LeafTree Counts)) (rest : ℕ) (l : Open) →
    IsOutside (rule_system g) l → AllThread (rule_system g) rest l → ((n : ℕ) (x : LeafTree Counts) → At ls n x → Fit (rule_system g) rest l x.full) → (t : Derivation) →
    IsAccepted (calculus g (gen_item g words (asked_of g input) most_rules most_empty own))
    (pruned (wholes g (gen_item g words (asked_of g input) most_rules most_empty own) limits ls) (Hopeless (rule_system g) rest l (IsGenAccepted g words (asked_of g input) most_rules most_empty own)))
    (chart_limits limits) (leaves_from 0 ls) t
    ↔ IsAccepted (calculus g (gen_item g words (asked_of g input) most_rules most_empty own)) (wholes g (gen_item g words (asked_of g input) most_rules most_empty own) limits ls)
    (chart_limits limits) (leaves_from 0 ls) t
