-- The packed forest of a line, as it is told: its classes in order, each with what makes its members (Oepen and Carroll 2000).
use Rattle.std.specs.Prelude.{ℕ, ◌≡◌, ◌<◌, ◌↔◌, Bool, IsTrue, List, map, slice_get}
use Rattle.std.specs.Ordering.{ordering_then, nat_cmp}
use Rattle.std.specs.Cmp.Lexicographic.{slice_cmp}
use Rattle.std.specs.declared.cmp.Ordering.{Ordering}
use Rattle.std.specs.declared.cmp.Ordering.TheVariants.{Less, Greater}
use Rattle.chart_model.specs.Calculus.{Along}
use Rattle.chart_model.specs.declared.span.Span.{Span}
use Rattle.type_hierarchy.specs.Table.{TypeTable}
use Rattle.fs_graph.specs.GraphMap.{type_at}
use Rattle.chart_model.specs.At.{At}
use Rattle.chart_model.specs.Classes.{Class}
use Rattle.chart_model.specs.Limits.{IsLowClass}
use Rattle.derivation.specs.Trees.{Derivation, lexical, phrase}
use Rattle.derivation.specs.Order.{compare_trees, outermost}
use Rattle.tree_model.specs.Structures.{Structure}
use Rattle.tree_model.specs.Signs.{Signs, placed_rules, place_at}
use Rattle.tree_model.specs.Trees.{IsRooted}
use Rattle.tree_model.specs.Items.{Item, LeafTree, Limits, calculus, leaves_from, chart_limits}
use Rattle.packed_forests.specs.Makers.{IsOwnLeaf, IsOwnTuple}
use Rattle.line_charts.specs.Keys.{Key, IsGraphOf, IsGraphText, compare_keys}

-- what makes members of a class: a lexical tree, or a phrase rule, by its place, over classes, by their numbers from 0 on
pub data Maker : Type 0 where
  by_tree : Derivation → Maker
  by_rule : ℕ → List ℕ → Maker

-- the place of the outermost node of a tree
abbrev pub place_of : Derivation → ℕ
place_of (lexical entry rules words nodes) = outermost entry rules
place_of (phrase rule ds) = rule

-- In the order of trees: by the place of the outermost node, a lexical tree first; then two lexical trees as trees, and two of one
-- rule by the numbers of their classes from the left.
abbrev pub compare_makers : Maker → Maker → Ordering
compare_makers (by_tree t) (by_tree u) = compare_trees t u
compare_makers (by_tree t) (by_rule rule ns) = ordering_then (nat_cmp (place_of t) rule) Less
compare_makers (by_rule rule ns) (by_tree t) = ordering_then (nat_cmp rule (place_of t)) Greater
compare_makers (by_rule rule ns) (by_rule other ms) = ordering_then (nat_cmp rule other) (slice_cmp nat_cmp ns ms)

-- a packed class as it is told: its nodes, the type of its structure, whether some root unifies with that, and its makers
pub record ToldClass : Type 0 where
  pub from : ℕ
  pub to : ℕ
  pub ty : ℕ
  pub rooted : Bool
  pub makers : List Maker

-- a class with its place in order
pub record Keyed : Type 0 where
  pub class : Class Structure Span
  pub key : Key

abbrev pub classes_of : List Keyed → List (Class Structure Span)
classes_of ks = map (λ k. k.class) ks

module _ (g : Signs) (types : TypeTable) (feats : List (List ℕ)) where
  pub record IsKeyed (k : Keyed) : Type 0 where
    pub from : k.key.from ≡ k.class.cover.from
    pub to : k.key.to ≡ k.class.cover.to
    pub level : k.key.level ≡ k.class.level
    pub graph : IsGraphOf g.paths k.class.shape k.key.graph
    pub text : IsGraphText types feats k.key.graph k.key.text

module _ (g : Signs) (item : Item Span) (limits : Limits) (ls : List (LeafTree Span)) where
  -- it makes members of the class, where the classes are numbered so
  abbrev pub IsMaker : List (Class Structure Span) → Class Structure Span → Maker → Type 0
  IsMaker classes c (by_tree t) = (l : ℕ) × (leaf : LeafTree Span) × At ls l leaf × (leaf.tree ≡ t) × IsOwnLeaf (calculus g item) (chart_limits limits) (leaves_from 0 ls) c l
  IsMaker classes c (by_rule place ns) =
      (rule : ℕ) × (ds : List (Class Structure Span)) × (place ≡ place_at (slice_get (placed_rules g) rule)) × Along (At classes) ns ds
      × IsOwnTuple (calculus g item) (chart_limits limits) (leaves_from 0 ls) c rule ds

  -- all that makes members of the class, each once, in order
  pub record AreMakers (classes : List (Class Structure Span)) (c : Class Structure Span) (ms : List Maker) : Type 0 where
    pub each : (n : ℕ) (m : Maker) → At ms n m → IsMaker classes c m
    pub all : (m : Maker) → IsMaker classes c m → (n : ℕ) × At ms n m
    pub rising : (i j : ℕ) (m n : Maker) → i < j → At ms i m → At ms j n → compare_makers m n ≡ Less

  pub record IsTold (classes : List (Class Structure Span)) (k : Keyed) (told : ToldClass) : Type 0 where
    pub from : told.from ≡ k.class.cover.from
    pub to : told.to ≡ k.class.cover.to
    pub typed : told.ty ≡ type_at k.key.graph 0
    pub rooted : IsTrue told.rooted ↔ IsRooted g k.class.shape
    pub makers : AreMakers classes k.class told.makers

  -- exactly the packed classes over the leaves, each once, in order, as they are told
  pub record IsPackedForest (types : TypeTable) (feats : List (List ℕ)) (told : List ToldClass) : Type 0 where
    pub keyed : List Keyed
    pub each : (n : ℕ) (k : Keyed) → At keyed n k → IsKeyed g types feats k × IsLowClass (calculus g item) (chart_limits limits) (leaves_from 0 ls) k.class
    pub all : (c : Class Structure Span) → IsLowClass (calculus g item) (chart_limits limits) (leaves_from 0 ls) c → (n : ℕ) × At (classes_of keyed) n c
    pub rising : (i j : ℕ) (k l : Keyed) → i < j → At keyed i k → At keyed j l → compare_keys k.key l.key ≡ Less
    pub told_all : Along (IsTold (classes_of keyed)) keyed told
