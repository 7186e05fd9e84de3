-- The limits on packed classes and on unary chains, and the answer that they give.
use Rattle.std.specs.Prelude.{◌≡◌, ℕ, ◌+◌, ◌≤◌, ◌<◌, ◌⊎◌, List, length}
use Rattle.chart_model.specs.Calculus.{Calculus}
use Rattle.chart_model.specs.At.{At}
use Rattle.chart_model.specs.Chart.{Leaf, Limits}
use Rattle.chart_model.specs.Classes.{Class, Member, IsPacked}

-- what the limits answer: a fault with its size, or none
pub data LimitAnswer : Type 0 where
  UnaryChain : ℕ → LimitAnswer
  Edges : ℕ → LimitAnswer
  Within : LimitAnswer

module _ {M C : Type 0} where
  -- no class stands in the list twice
  abbrev pub NoneTwice : List (Class M C) → Type 0
  NoneTwice cs = (i j : ℕ) (c : Class M C) → At cs i c → At cs j c → i ≡ j

module _ {M C : Type 0} (k : Calculus M C) (limits : Limits) (leaves : List (Leaf M C)) where
  -- a unary chain by size n: a member of the level above the limit, of at most that size
  pub record HasChain (n : ℕ) : Type 0 where
    pub top : Class M C
    pub member : Member k limits leaves top
    pub level : top.level ≡ limits.unary + 1
    pub size : k.size top.cover ≤ n

  -- a packed class of a level up to the limit
  pub record IsLowClass (c : Class M C) : Type 0 where
    pub packed : IsPacked k limits leaves c
    pub level : c.level ≤ limits.unary

  -- more packed classes of levels up to the limit, each of at most size n, than there may be edges
  pub record HasEdges (n : ℕ) : Type 0 where
    pub classes : List (Class M C)
    pub none_twice : NoneTwice classes
    pub each : (i : ℕ) (c : Class M C) → At classes i c → IsLowClass c × (k.size c.cover ≤ n)
    pub more : limits.edges < length classes

  -- one of the two limits is broken by size n
  abbrev pub IsBroken : ℕ → Type 0
  IsBroken n = HasChain n ⊎ HasEdges n

  -- n is the least size at which one of the two is broken
  pub record IsLeastBroken (n : ℕ) : Type 0 where
    pub broken : IsBroken n
    pub least : (m : ℕ) → m < n → IsBroken m → ⊥

  -- the least size at which one of the two is broken, with the unary chain where there is one at that size; none where neither is broken at any size
  abbrev pub IsLimitAnswer : LimitAnswer → Type 0
  IsLimitAnswer (UnaryChain n) = IsLeastBroken n × HasChain n
  IsLimitAnswer (Edges n) = IsLeastBroken n × (HasChain n → ⊥)
  IsLimitAnswer Within = (n : ℕ) → IsBroken n → ⊥

  -- h is the number of packed classes of levels up to the limit
  pub record IsClassCount (h : ℕ) : Type 0 where
    pub classes : List (Class M C)
    pub none_twice : NoneTwice classes
    pub each : (i : ℕ) (c : Class M C) → At classes i c → IsLowClass c
    pub all : (c : Class M C) → IsLowClass c → (i : ℕ) × At classes i c
    pub counted : length classes ≡ h

  -- each leaf has a cover that may stand in a chart
  abbrev pub AreProper : Type 0
  AreProper = (l : ℕ) (leaf : Leaf M C) → At leaves l leaf → k.proper leaf.cover

-- the answer of the limits and the class count are one each
pub record AnswersAreOne {M C : Type 0} (k : Calculus M C) : Type 0 where
  pub one_answer : (limits : Limits) (leaves : List (Leaf M C)) (a b : LimitAnswer) → IsLimitAnswer k limits leaves a → IsLimitAnswer k limits leaves b → a ≡ b
  pub one_count : (limits : Limits) (leaves : List (Leaf M C)) (g h : ℕ) → IsClassCount k limits leaves g → IsClassCount k limits leaves h → g ≡ h
