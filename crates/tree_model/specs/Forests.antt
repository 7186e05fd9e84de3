-- What a forest over the leaves is to give, and what it has to do with the trees that an item asks for.
use Rattle.std.specs.Prelude.{ℕ, ◌≡◌, ◌↔◌, ◌≤◌, length, Option, Some, None, List, [], slice_get}
use Rattle.fs_model.specs.Claims.{IsOrder}
use Rattle.chart_model.specs.At.{At}
use Rattle.chart_model.specs.Chart as chart
use Rattle.chart_model.specs.Classes.{Class, HostsAreClasses}
use Rattle.chart_model.specs.Grown as forest
use Rattle.tree_model.specs.Readings as readings
use Rattle.chart_model.specs.Limits.{IsLimitAnswer, UnaryChain, Edges, Within, IsClassCount}
use Rattle.derivation.specs.Trees.{Derivation, Daughters, lexical, phrase, no_more, first}
use Rattle.tree_model.specs.Structures.{Structure}
use Rattle.tree_model.specs.Mothers.{Agrees}
use Rattle.tree_model.specs.Laws.{rules_full}
use Rattle.tree_model.specs.Signs.{Signs, rule_system, placed_rules, place_at}
use Rattle.tree_model.specs.Items.{Item, IsItem, IsWanted, LeafTree, AreLeaves, Limits, calculus, leaves_from, chart_limits, Answer, LexicalDepth, ByUnaryChain, ByEdges, Readings, Trees, IsItemAnswer}

-- the tree of a leaf's number
abbrev pub leaf_at : {C : Type 0} → Option (LeafTree C) → Derivation
leaf_at None = lexical 0 [] [] None
leaf_at (Some l) = l.tree

abbrev pub full_at : {C : Type 0} → Option (LeafTree C) → Structure
full_at None = record { types = []; equal = [] }
full_at (Some l) = l.full

abbrev mutual
  -- the derivation of a forest's tree
  pub derived : {C : Type 0} → Signs → List (LeafTree C) → forest.Tree → Derivation
  derived g ls (forest.leaf_tree l) = leaf_at (slice_get ls l)
  derived g ls (forest.phrase rule ts) = phrase (place_at (slice_get (placed_rules g) rule)) (derived_all g ls ts)

  pub derived_all : {C : Type 0} → Signs → List (LeafTree C) → forest.Trees → Daughters
  derived_all g ls forest.no_trees = no_more
  derived_all g ls (forest.more_trees t ts) = first (derived g ls t) (derived_all g ls ts)

-- the full structure of a leaf
abbrev pub IsOwn : {C : Type 0} → List (LeafTree C) → chart.Leaf Structure C → Structure → Type 0
IsOwn {C} ls leaf f = (l : LeafTree C) × At ls leaf.name l × (l.full ≡ f)

module _ {C : Type 0} (g : Signs) (item : Item C) (limits : Limits) (ls : List (LeafTree C)) where
  -- a tree over the leaves with its full structure
  abbrev pub Grown : forest.Tree → Class Structure C → Type 0
  Grown = forest.Grown (calculus g item) (rules_full (rule_system g)) (IsOwn ls) (chart_limits limits) (leaves_from 0 ls)

  -- the forest's accepted trees, which unpacking is to list
  pub record IsUnpacked (t : Derivation) : Type 0 where
    pub tree : forest.Tree
    pub class : Class Structure C
    pub grown : Grown tree class
    pub accepted : item.accepted class.shape class.cover
    pub is : derived g ls tree ≡ t

  -- a finished chart over the leaves, within the limits: its live hosts are the packed classes, and it holds its trees
  pub record IsForest : Type 0 where
    pub chart_is : chart.Chart Structure C
    pub hosts : HostsAreClasses (calculus g item) (chart_limits limits) (leaves_from 0 ls) chart_is
    pub holds : forest.HoldsTrees (calculus g item) (rules_full (rule_system g)) (Agrees (rule_system g)) (chart_limits limits) (leaves_from 0 ls) chart_is
    pub within : IsLimitAnswer (calculus g item) (chart_limits limits) (leaves_from 0 ls) Within

  -- in the words of unpacking, which lists readings
  abbrev pub wholes : readings.Wholes Structure C
  wholes =
      record {
        leaf_full = λ n. full_at (slice_get ls n);
        leaf_tree = λ n. leaf_at (slice_get ls n);
        full = rules_full (rule_system g);
        place = λ rule. place_at (slice_get (placed_rules g) rule);
        accepted = item.accepted;
      }

  -- What is known of an item when its chart is finished and unpacked: the answer of its limits, and within them the forest's
  -- accepted trees, or that they are too many.
  abbrev pub IsFound : Answer → Type 0
  IsFound LexicalDepth = ⊥
  IsFound ByUnaryChain = (n : ℕ) × IsLimitAnswer (calculus g item) (chart_limits limits) (leaves_from 0 ls) (UnaryChain n)
  IsFound ByEdges = (n : ℕ) × IsLimitAnswer (calculus g item) (chart_limits limits) (leaves_from 0 ls) (Edges n)
  IsFound Readings = IsForest × readings.AreMoreThan (calculus g item) wholes (chart_limits limits) (leaves_from 0 ls) limits.readings
  IsFound (Trees classes trees) =
      IsForest × IsClassCount (calculus g item) (chart_limits limits) (leaves_from 0 ls) classes
      × readings.AreAllAccepted (calculus g item) wholes (chart_limits limits) (leaves_from 0 ls) trees × (length trees ≤ limits.readings)

-- Where no limit on classes or chains is broken, the forest's accepted trees are exactly those that the item asks for.
abbrev pub ForestsAreWanted : {C : Type 0} → Item C → Type 0
ForestsAreWanted {C} item = (g : Signs) → IsOrder g.system → IsItem item → (limits : Limits) (ls : List (LeafTree C)) → AreLeaves g item ls →
    IsForest g item limits ls → (t : Derivation) → IsUnpacked g item limits ls t ↔ IsWanted g item t

-- So the item has this answer, where no lexical tree is too deep.
abbrev pub AnswersAreRight : {C : Type 0} → Item C → Type 0
AnswersAreRight {C} item = (g : Signs) → IsOrder g.system → IsItem item → (limits : Limits) → (item.too_deep → ⊥) →
    (ls : List (LeafTree C)) → AreLeaves g item ls → (a : Answer) → IsFound g item limits ls a → IsItemAnswer g item limits a

-- An item has one answer.
abbrev pub AnswersAreOne : {C : Type 0} → Item C → Type 0
AnswersAreOne item = (g : Signs) → IsOrder g.system → IsItem item → (limits : Limits) (a b : Answer) → IsItemAnswer g item limits a → IsItemAnswer g item limits b → a ≡ b
