-- Sentences, and the answer for generation.
use Rattle.std.specs.Prelude.{ℕ, ◌≡◌, List, [], ◌∷◌, ◌++◌, Option}
use Rattle.std.specs.declared.cmp.Ordering.TheVariants.{Less}
use Rattle.std.specs.Ordering.{nat_cmp}
use Rattle.std.specs.Cmp.Lexicographic.{slice_cmp}
use Rattle.fs_model.specs.Claims.{Has, IsOrder}
use Rattle.chart_model.specs.Limits.{IsLimitAnswer, UnaryChain, Edges, Within, IsClassCount}
use Rattle.derivation.specs.Trees.{Derivation, Daughters, lexical, phrase, no_more, first}
use Rattle.derivation.specs.Order.{compare_trees}
use Rattle.chart_model.specs.declared.counts.Counts.{Counts}
use Rattle.tree_model.specs.Signs.{Signs}
use Rattle.tree_model.specs.Lexical.{Word, Words}
use Rattle.tree_model.specs.Items as item
use Rattle.tree_model.specs.Items.{LeafTree, AreLeaves, AreExactly, AreMoreThan, Limits, calculus, leaves_from, chart_limits}
use Rattle.tree_model.specs.Forests.{IsFound}
use Rattle.generate_model.specs.Realizations.{Asked, IsRealization, IsTold, IsGenTooDeep, gen_item}

abbrev mutual
  -- the words of a tree from the left
  pub yield : Derivation → List Word
  yield (lexical entry rules words nodes) = words
  yield (phrase rule ds) = yields ds

  pub yields : Daughters → List Word
  yields no_more = []
  yields (first d ds) = yield d ++ yields ds

-- joined by one space
abbrev pub joined : List Word → Word
joined [] = []
joined (w ∷ []) = w
joined (w ∷ v ∷ vs) = w ++ 32 ∷ joined (v ∷ vs)

abbrev pub text_of : Derivation → Word
text_of t = joined (yield t)

pub record Sentence : Type 0 where
  pub text : Word
  pub tree : Derivation

-- a text of a set of trees, with its least tree
pub record IsSentence (set : Derivation → Type 0) (s : Sentence) : Type 0 where
  pub is : set s.tree
  pub text : text_of s.tree ≡ s.text
  pub least : (t : Derivation) → set t → text_of t ≡ s.text → compare_trees t s.tree ≡ Less → ⊥

-- each text comes strictly before the next, in byte order
pub data TextsRise : List Sentence → Type 0 where
  texts_none : TextsRise []
  texts_one : {s : Sentence} → TextsRise (s ∷ [])
  texts_more : {s u : Sentence} {ss : List Sentence} → slice_cmp nat_cmp s.text u.text ≡ Less → TextsRise (u ∷ ss) → TextsRise (s ∷ u ∷ ss)

-- the texts of a set of trees, each once
pub record AreSentences (set : Derivation → Type 0) (ss : List Sentence) : Type 0 where
  pub each : (s : Sentence) → Has s ss → IsSentence set s
  pub all : (t : Derivation) → set t → (s : Sentence) × Has s ss × (s.text ≡ text_of t)
  pub rise : TextsRise ss

pub data GenAnswer : Type 0 where
  LexicalDepth : GenAnswer
  ByUnaryChain : GenAnswer
  ByEdges : GenAnswer
  Readings : GenAnswer
  Sentences : (classes : ℕ) (sentences : List Sentence) → GenAnswer

module _ (g : Signs) (words : Words) (asked : Asked) (most_rules most_empty : ℕ) (own : ℕ → Option Counts) (limits : Limits) where
  abbrev pub Real : Derivation → Type 0
  Real = IsRealization g words asked most_rules most_empty

  -- the answer by its leaves, where no lexical tree is too deep
  abbrev pub IsGenAnswerOver : List (LeafTree Counts) → GenAnswer → Type 0
  IsGenAnswerOver ls LexicalDepth = ⊥
  IsGenAnswerOver ls ByUnaryChain = (n : ℕ) × IsLimitAnswer (calculus g (gen_item g words asked most_rules most_empty own)) (chart_limits limits) (leaves_from 0 ls) (UnaryChain n)
  IsGenAnswerOver ls ByEdges = (n : ℕ) × IsLimitAnswer (calculus g (gen_item g words asked most_rules most_empty own)) (chart_limits limits) (leaves_from 0 ls) (Edges n)
  IsGenAnswerOver ls Readings = IsLimitAnswer (calculus g (gen_item g words asked most_rules most_empty own)) (chart_limits limits) (leaves_from 0 ls) Within × AreMoreThan Real limits.readings
  IsGenAnswerOver ls (Sentences classes ss) =
      IsLimitAnswer (calculus g (gen_item g words asked most_rules most_empty own)) (chart_limits limits) (leaves_from 0 ls) Within
      × IsClassCount (calculus g (gen_item g words asked most_rules most_empty own)) (chart_limits limits) (leaves_from 0 ls) classes
      × (AreMoreThan Real limits.readings → ⊥) × AreSentences Real ss

  -- the first rule that holds decides
  abbrev pub IsGenAnswer : GenAnswer → Type 0
  IsGenAnswer LexicalDepth = IsGenTooDeep g words asked most_rules most_empty own
  IsGenAnswer a = (IsGenTooDeep g words asked most_rules most_empty own → ⊥) × ((ls : List (LeafTree Counts)) × AreLeaves g (gen_item g words asked most_rules most_empty own) ls × IsGenAnswerOver ls a)

  -- what is known when chart and unpacking have ended, and the trees were put together by their texts
  abbrev pub IsGenFound : List (LeafTree Counts) → GenAnswer → Type 0
  IsGenFound ls LexicalDepth = ⊥
  IsGenFound ls ByUnaryChain = IsFound g (gen_item g words asked most_rules most_empty own) limits ls item.ByUnaryChain
  IsGenFound ls ByEdges = IsFound g (gen_item g words asked most_rules most_empty own) limits ls item.ByEdges
  IsGenFound ls Readings = IsFound g (gen_item g words asked most_rules most_empty own) limits ls item.Readings
  IsGenFound ls (Sentences classes ss) = (ts : List Derivation) × IsFound g (gen_item g words asked most_rules most_empty own) limits ls (item.Trees classes ts) × AreSentences (λ t. Has t ts) ss

-- Chart, unpacking and texts give the answer for generation.
abbrev pub GenerationIsRight : Type 1
GenerationIsRight = (g : Signs) → IsOrder g.system → (words : Words) (asked : Asked) (most_rules most_empty : ℕ) (own : ℕ → Option Counts) → IsTold g asked own → (limits : Limits) →
    (IsGenTooDeep g words asked most_rules most_empty own → ⊥) → (ls : List (LeafTree Counts)) → AreLeaves g (gen_item g words asked most_rules most_empty own) ls →
    (a : GenAnswer) → IsGenFound g words asked most_rules most_empty own limits ls a → IsGenAnswer g words asked most_rules most_empty own limits a
