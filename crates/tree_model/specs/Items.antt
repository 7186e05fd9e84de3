-- An item over any covers: what is asked of its trees, and its answer.
use Rattle.std.specs.Prelude.{ℕ, ◌≡◌, ◌<◌, ◌≤◌, ◌+◌, Bool, Option, List, [], ◌∷◌, length, slice_get}
use Rattle.fs_model.specs.Claims.{Has}
use Rattle.chart_model.specs.Calculus.{Calculus}
use Rattle.chart_model.specs.At.{At}
use Rattle.chart_model.specs.Chart as chart
use Rattle.chart_model.specs.Limits.{IsLimitAnswer, UnaryChain, Edges, Within, IsClassCount}
use Rattle.derivation.specs.Trees.{Derivation}
use Rattle.tree_model.specs.Forest.{IsLexical}
use Rattle.tree_model.specs.Readings.{Rises}
use Rattle.tree_model.specs.Structures.{Structure}
use Rattle.tree_model.specs.Mothers.{IsAbstract, Meant}
use Rattle.tree_model.specs.Laws.{rules_calculus}
use Rattle.tree_model.specs.Signs.{Signs, rule_system, placed_rules, place_at}
use Rattle.tree_model.specs.Trees.{Full, LeavesAre, Covered}

-- what an item asks: which lexical trees are its leaves and what they cover, what a rule, by its place, makes of covers,
-- which full structures with which covers are accepted, and when its lexical trees are too deep
pub record Item (C : Type 0) : Type 1 where
  pub leaf : Derivation → Type 0
  pub of_leaf : Derivation → C → Type 0
  pub covers : ℕ → List C → Option C
  pub same : C → C → Bool
  pub join : C → C → Option C
  pub size : C → ℕ
  pub proper : C → Type 0
  pub accepted : Structure → C → Type 0
  pub too_deep : Type 0

-- leaves are lexical trees, each with one cover at most
pub record IsItem {C : Type 0} (item : Item C) : Type 0 where
  pub lexical : (t : Derivation) → item.leaf t → IsLexical t
  pub one_cover : (t : Derivation) (c d : C) → item.of_leaf t c → item.of_leaf t d → c ≡ d

pub record Limits : Type 0 where
  pub edges : ℕ
  pub readings : ℕ
  pub unary : ℕ

pub data Answer : Type 0 where
  LexicalDepth : Answer
  ByUnaryChain : Answer
  ByEdges : Answer
  Readings : Answer
  Trees : (classes : ℕ) (trees : List Derivation) → Answer

-- a leaf: a lexical tree with its cover, its full structure and the abstraction of that
pub record LeafTree (C : Type 0) : Type 0 where
  pub tree : Derivation
  pub cover : C
  pub full : Structure
  pub shape : Structure

-- as leaves of a chart, named by their numbers
abbrev pub leaves_from : {C : Type 0} → ℕ → List (LeafTree C) → List (chart.Leaf Structure C)
leaves_from n [] = []
leaves_from n (l ∷ ls) = record { cover = l.cover; shape = l.shape; name = n } ∷ leaves_from (n + 1) ls

abbrev pub chart_limits : Limits → chart.Limits
chart_limits limits = record { edges = limits.edges; unary = limits.unary }

-- exactly the trees of a set, in order
pub record AreExactly (set : Derivation → Type 0) (ts : List Derivation) : Type 0 where
  pub ordered : Rises ts
  pub each : (t : Derivation) → Has t ts → set t
  pub all : (t : Derivation) → set t → Has t ts

-- more trees of a set than a number
pub record AreMoreThan (set : Derivation → Type 0) (most : ℕ) : Type 0 where
  pub trees : List Derivation
  pub ordered : Rises trees
  pub each : (t : Derivation) → Has t trees → set t
  pub more : most < length trees

module _ {C : Type 0} (g : Signs) (item : Item C) where
  -- the phrase rules over these covers, by number
  abbrev pub calculus : Calculus Structure C
  calculus = rules_calculus (rule_system g) (λ rule cs. item.covers (place_at (slice_get (placed_rules g) rule)) cs) item.same item.join item.size item.proper

  -- the tree is one that the item asks for
  pub record IsWanted (t : Derivation) : Type 0 where
    pub leaves : LeavesAre item.leaf t
    pub cover : C
    pub covered : Covered item.of_leaf item.covers t cover
    pub structure : Structure
    pub full : Full g t structure
    pub accepted : item.accepted structure cover

  pub record IsLeafTree (l : LeafTree C) : Type 0 where
    pub leaf : item.leaf l.tree
    pub covered : item.of_leaf l.tree l.cover
    pub full : Full g l.tree l.full
    pub abstract : IsAbstract (rule_system g) (Meant (rule_system g) l.full) l.shape

  -- these are the leaves, each once
  pub record AreLeaves (ls : List (LeafTree C)) : Type 0 where
    pub each : (n : ℕ) (l : LeafTree C) → At ls n l → IsLeafTree l
    pub all : (t : Derivation) → item.leaf t → (n : ℕ) × (l : LeafTree C) × At ls n l × (l.tree ≡ t)
    pub once : (n m : ℕ) (l k : LeafTree C) → At ls n l → At ls m k → l.tree ≡ k.tree → n ≡ m

  module _ (limits : Limits) where
    -- the answer by its leaves, where no lexical tree is too deep
    abbrev pub IsAnswerOver : List (LeafTree C) → Answer → Type 0
    IsAnswerOver ls LexicalDepth = ⊥
    IsAnswerOver ls ByUnaryChain = (n : ℕ) × IsLimitAnswer calculus (chart_limits limits) (leaves_from 0 ls) (UnaryChain n)
    IsAnswerOver ls ByEdges = (n : ℕ) × IsLimitAnswer calculus (chart_limits limits) (leaves_from 0 ls) (Edges n)
    IsAnswerOver ls Readings = IsLimitAnswer calculus (chart_limits limits) (leaves_from 0 ls) Within × AreMoreThan IsWanted limits.readings
    IsAnswerOver ls (Trees classes trees) =
        IsLimitAnswer calculus (chart_limits limits) (leaves_from 0 ls) Within × IsClassCount calculus (chart_limits limits) (leaves_from 0 ls) classes
        × AreExactly IsWanted trees × (length trees ≤ limits.readings)

    -- the first rule that holds decides
    abbrev pub IsItemAnswer : Answer → Type 0
    IsItemAnswer LexicalDepth = item.too_deep
    IsItemAnswer a = (item.too_deep → ⊥) × ((ls : List (LeafTree C)) × AreLeaves ls × IsAnswerOver ls a)
