-- How the rules above each type are kept: rows of places, which types may share.
use Rattle.std.specs.Prelude.{ℕ, ◌≡◌, ◌<◌, ◌≤◌, Bool, true, false, Option, IfSome, List, [], length, slice_index_or}
use Rattle.type_hierarchy.specs.Table.{TypeTable, count_of}
use Rattle.fs_closing.specs.Rules.{Rule, no_rule, rules_above, HaveSame}

-- the first types have rows, of the rules above them
pub record HaveRows (types : TypeTable) (rules : List Rule) (rows : List (List ℕ)) (row_of : List ℕ) (count : ℕ) : Type 0 where
  pub each : length row_of ≡ count
  pub within : (t : ℕ) → t < count → slice_index_or row_of t 0 < length rows
  pub row_is : (t : ℕ) → t < count → HaveSame (slice_index_or rows (slice_index_or row_of t 0) []) (rules_above types rules t)

-- a row of these places has this number now, and all that were there are as before
pub record AddsRow (rows rows' : List (List ℕ)) (number : ℕ) (row : List ℕ) : Type 0 where
  pub more : length rows ≤ length rows'
  pub old : (k : ℕ) → k < length rows → slice_index_or rows' k [] ≡ slice_index_or rows k []
  pub within : number < length rows'
  pub row_is : HaveSame (slice_index_or rows' number []) row

-- the row of strings that no rule is of, if it is there; the first number that no type has counts as such a string
abbrev pub IsShared : TypeTable → List Rule → List (List ℕ) → Option ℕ → Type 0
IsShared types rules rows shared =
    IfSome shared (λ r. (r < length rows) × HaveSame (slice_index_or rows r []) (rules_above types rules (count_of types)))

-- a mark for each type, set where one of the first rules is of it
pub record HaveOwn (rules : List Rule) (taken count : ℕ) (own : List Bool) : Type 0 where
  pub each : length own ≡ count
  pub set : (j : ℕ) → j < taken → slice_index_or own (slice_index_or rules j no_rule).ty false ≡ true
