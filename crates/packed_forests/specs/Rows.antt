-- The rows of a finished chart that make the members of its live hosts, and what they are in terms of classes.
use Rattle.std.specs.Prelude.{ℕ, ◌≡◌, ◌<◌, ◌⊎◌, true, Some, List, map}
use Rattle.chart_model.specs.Calculus.{Calculus, Along}
use Rattle.chart_model.specs.At.{At}
use Rattle.chart_model.specs.Chart.{OfLeaf, OfWhole, Row, Chart, Leaf, Limits, all_free}
use Rattle.chart_model.specs.Classes.{Class, IsHost}
use Rattle.chart_model.specs.Limits.{IsLowClass, IsLimitAnswer, Within}
use Rattle.chart_model.specs.Finished.{IsComplete}
use Rattle.packed_forests.specs.Makers.{IsOwnLeaf, IsOwnTuple}
use Rattle.packed_forests.specs.declared.ClassRows.{ClassRows}

-- numbers that rise
abbrev pub AreRising : List ℕ → Type 0
AreRising ns = (i j m n : ℕ) → i < j → At ns i m → At ns j n → m < n

module _ {M C : Type 0} (k : Calculus M C) (ch : Chart M C) where
  -- it is the row of a leaf, or of a mother over live hosts alone
  abbrev pub Counts : Row M C → Type 0
  Counts row = ((name : ℕ) × (row.kind ≡ OfLeaf name)) ⊎ ((rule : ℕ) × (row.kind ≡ OfWhole rule) × (all_free ch.into row.daughters ≡ true))

  -- row i counts, and has the cover and the level of row h, whose structure subsumes its own
  pub record IsMadeBy (h i : ℕ) : Type 0 where
    pub host : Row M C
    pub host_at : At ch.rows h host
    pub row : Row M C
    pub at : At ch.rows i row
    pub counts : Counts row
    pub general : M
    pub general_is : host.shape ≡ Some general
    pub special : M
    pub special_is : row.shape ≡ Some special
    pub over : k.over general special ≡ true
    pub cover : row.cover ≡ host.cover
    pub level : row.level ≡ host.level

  -- exactly the rows that count and are subsumed, each once
  pub record AreMakerRows (h : ℕ) (is : List ℕ) : Type 0 where
    pub each : (n i : ℕ) → At is n i → IsMadeBy h i
    pub all : (i : ℕ) → IsMadeBy h i → (n : ℕ) × At is n i
    pub rising : AreRising is

abbrev pub hosts_of : List ClassRows → List ℕ
hosts_of classes = map (λ c. c.host.0) classes

abbrev pub makers_of : ClassRows → List ℕ
makers_of c = map (λ r. r.0) c.makers.items

module _ {M C : Type 0} (k : Calculus M C) (limits : Limits) (leaves : List (Leaf M C)) (ch : Chart M C) where
  -- exactly the live hosts, each once and in order of rows, with the rows that make their members
  pub record AreClassRows (classes : List ClassRows) : Type 0 where
    pub each : (n : ℕ) (r : ClassRows) → At classes n r → (c : Class M C) × IsHost k limits leaves ch c r.host.0
    pub all : (c : Class M C) (h : ℕ) → IsHost k limits leaves ch c h → (n : ℕ) × At (hosts_of classes) n h
    pub rising : AreRising (hosts_of classes)
    pub makers : (n : ℕ) (r : ClassRows) → At classes n r → AreMakerRows k ch r.host.0 (makers_of r)

  -- what makes the members of a class in terms of rows, where row h is its host
  pub record AreItsMakers (c : Class M C) (h : ℕ) : Type 0 where
    -- a leaf's row has the leaf's number
    pub of_leaf : (i name : ℕ) (row : Row M C) → IsMadeBy k ch h i → At ch.rows i row → row.kind ≡ OfLeaf name → IsOwnLeaf k limits leaves c i × ((leaf : Leaf M C) → At leaves i leaf → leaf.name ≡ name)
    pub of_tuple : (i rule : ℕ) (row : Row M C) → IsMadeBy k ch h i → At ch.rows i row → row.kind ≡ OfWhole rule → (ds : List (Class M C)) × Along (IsHost k limits leaves ch) ds row.daughters × IsOwnTuple k limits leaves c rule ds
    pub leaf_row : (l : ℕ) → IsOwnLeaf k limits leaves c l → IsMadeBy k ch h l × ((row : Row M C) × At ch.rows l row × ((name : ℕ) × (row.kind ≡ OfLeaf name)))
    pub tuple_row : (rule : ℕ) (ds : List (Class M C)) → IsOwnTuple k limits leaves c rule ds → (i : ℕ) × (row : Row M C) × IsMadeBy k ch h i × At ch.rows i row × (row.kind ≡ OfWhole rule) × Along (IsHost k limits leaves ch) ds row.daughters

-- In a finished chart within the limits the rows under a live host are what makes the members of its class; and each packed class has
-- a live host.
abbrev pub RowsAreMakers : {M C : Type 0} → Calculus M C → Type 0
RowsAreMakers {M} {C} k = (limits : Limits) (leaves : List (Leaf M C)) (ch : Chart M C) → IsComplete k limits leaves ch → IsLimitAnswer k limits leaves Within →
    (c : Class M C) (h : ℕ) → IsHost k limits leaves ch c h → IsLowClass k limits leaves c × AreItsMakers k limits leaves ch c h
