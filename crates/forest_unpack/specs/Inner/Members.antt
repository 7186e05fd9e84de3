-- Which rows stand in groups, by number, and what is told of a group, row by row; only private clauses cite it.
use Rattle.std.specs.Prelude.{◌≡◌, ℕ, ◌<◌, Option, Some, None, List, [], ◌∷◌, length, slice_get}
use Rattle.std.specs.List.{insert}
use Rattle.chart_model.specs.Grown.{LeadsTo}
use Rattle.chart_core.specs.declared.Row.{Row}
use Rattle.chart_core.specs.View.{into_of}
use Rattle.tree_model.specs.Lists as model
use Rattle.forest_unpack.specs.Groups.{TellsAt}

abbrev pub last_in : Option (Option ℕ) → Option ℕ
last_in None = None
last_in (Some last) = last

-- the last row of the group of a host, if it has one
abbrev pub last_at : List (Option ℕ) → ℕ → Option ℕ
last_at last h = last_in (slice_get last h)

abbrev pub IsBelow : Option ℕ → ℕ → Type 0
IsBelow None j = Unit {0}
IsBelow (Some i) j = i < j

-- these stand on the way back from a row, and it ends there
pub data Chain (before : List (Option ℕ)) : Option ℕ → List ℕ → Type 0 where
  chain_end : Chain before None []
  chain_on : (j : ℕ) (next : Option ℕ) (js : List ℕ) → slice_get before j ≡ Some next → IsBelow next j → Chain before next js → Chain before (Some j) (j ∷ js)

module _ {X T C W B : Type 0} (rows : List (Row X T C W B)) (n : ℕ) where
  -- on the way back from this row stand rows of the group of h, each once, and all of the first n that count
  pub record AreMembersOf (before : List (Option ℕ)) (h : ℕ) (last : Option ℕ) : Type 0 where
    pub numbers : List ℕ
    pub chain : Chain before last numbers
    pub each : (j : ℕ) → model.Has j numbers → (j < n) × LeadsTo (into_of rows) j h
    pub all : (j : ℕ) (g : model.GroupRow) → j < n → TellsAt rows j g → LeadsTo (into_of rows) j h → model.Has j numbers
    pub differ : model.AllDiffer numbers

  pub record AreMembers (last before : List (Option ℕ)) : Type 0 where
    pub lasts : length last ≡ length rows
    pub befores : length before ≡ n
    pub members : (h : ℕ) → AreMembersOf before h (last_at last h)

-- what is told of a row, if anything, came to what was told before, at some place
pub data Gains (old : List model.GroupRow) : List model.GroupRow → List model.GroupRow → Type 0 where
  gains_none : Gains old [] old
  gains_one : (g : model.GroupRow) (place : ℕ) → Gains old (g ∷ []) (insert old place g)
