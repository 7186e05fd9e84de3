-- The stages from the rows of a finished chart to its packed classes as they are told: live hosts, their numbers, and the makers of rows.
use Rattle.std.specs.Prelude.{ℕ, ◌≡◌, ◌<◌, Some, List, All, slice_get, IsPermutation}
use Rattle.std.specs.List.Sorted.{IsSortedBy}
use Rattle.std.specs.Ordering.{is_lt}
use Rattle.chart_model.specs.Calculus.{Calculus, Along}
use Rattle.chart_model.specs.At.{At}
use Rattle.chart_model.specs.Chart.{Kind, OfLeaf, OfPartial, OfWhole, Chart, Leaf, Limits}
use Rattle.chart_model.specs.Classes.{Class, IsHost}
use Rattle.derivation.specs.Trees.{Derivation}
use Rattle.tree_model.specs.Signs.{Signs, placed_rules, place_at}
use Rattle.chart_core.specs.declared.Row.{Row}
use Rattle.chart_core.specs.View.{kind_of, list_of}
use Rattle.line_charts.specs.Charts.{Maker, by_tree, by_rule, compare_makers}

-- no two places hold elements of one key
abbrev pub AreApart : {X K : Type 0} → (X → K) → List X → Type 0
AreApart {X} key xs = (i j : ℕ) (x y : X) → At xs i x → At xs j y → key x ≡ key y → i ≡ j

-- exactly the live hosts, each with its class and its row, each once
pub record AreLiveHosts {M C X : Type 0} (k : Calculus M C) (limits : Limits) (leaves : List (Leaf M C)) (ch : Chart M C) (class : X → Class M C) (host : X → ℕ) (xs : List X) : Type 0 where
  pub each : (n : ℕ) (x : X) → At xs n x → IsHost k limits leaves ch (class x) (host x)
  pub all : (c : Class M C) (h : ℕ) → IsHost k limits leaves ch c h → (n : ℕ) × (x : X) × At xs n x × (host x ≡ h)
  pub once : AreApart host xs

-- the places of phrase rules by number
abbrev pub rule_place : Signs → ℕ → ℕ
rule_place g rule = place_at (slice_get (placed_rules g) rule)

-- a table has this number at a row
abbrev pub IsNumber : List ℕ → ℕ → ℕ → Type 0
IsNumber table n row = slice_get table row ≡ Some n

-- a table has the place of each host at its row
abbrev pub AreNumbered : {X : Type 0} → (X → ℕ) → List X → List ℕ → Type 0
AreNumbered {X} host xs table = (n : ℕ) (x : X) → At xs n x → IsNumber table n (host x)

-- what a row of a kind and daughters makes members by: the tree of its name, or its rule by place, over the numbers of its daughters
pub data IsRowMaker (trees : List Derivation) (place : ℕ → ℕ) (table : List ℕ) : Kind → List ℕ → Maker → Type 0 where
  leaf_maker : (name : ℕ) (ds : List ℕ) (t : Derivation) → slice_get trees name ≡ Some t → IsRowMaker trees place table (OfLeaf name) ds (by_tree t)
  rule_maker : (rule : ℕ) (ds ns : List ℕ) → Along (IsNumber table) ns ds → IsRowMaker trees place table (OfWhole rule) ds (by_rule (place rule) ns)

-- there is such a tree, or such a rule, and the table has places for the daughters
abbrev pub IsTellable : ℕ → ℕ → ℕ → Kind → List ℕ → Type 0
IsTellable trees rules size (OfLeaf name) ds = name < trees
IsTellable trees rules size (OfPartial rule) ds = ⊥
IsTellable trees rules size (OfWhole rule) ds = (rule < rules) × All (λ d. d < size) ds

module _ {X T C W B : Type 0} (rows : List (Row X T C W B)) where
  -- the row of this number can be told
  pub record IsTellableAt (trees rules size i : ℕ) : Type 0 where
    pub row : Row X T C W B
    pub at : slice_get rows i ≡ Some row
    pub can : IsTellable trees rules size (kind_of row.kind) (list_of row.daughters)

  -- it is told so
  pub record IsMakerAt (trees : List Derivation) (place : ℕ → ℕ) (table : List ℕ) (i : ℕ) (m : Maker) : Type 0 where
    pub row : Row X T C W B
    pub at : slice_get rows i ≡ Some row
    pub made : IsRowMaker trees place table (kind_of row.kind) (list_of row.daughters) m

  -- what the rows of these numbers make members by, in order
  pub record AreRowMakers (trees : List Derivation) (place : ℕ → ℕ) (table : List ℕ) (is : List ℕ) (ms : List Maker) : Type 0 where
    pub told : List Maker
    pub each : Along (IsMakerAt trees place table) is told
    pub moved : IsPermutation told ms
    pub sorted : IsSortedBy (λ x y. is_lt (compare_makers x y)) ms
