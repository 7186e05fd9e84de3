-- The search for a map of variables: the elements of one MRS are taken in turn, each is given a place among those of the other.
use Rattle.std.specs.Prelude.{ℕ, suc, zero, ◌≡◌, ◌≢◌, ◌+◌, ◌*◌, ◌-◌, ◌<◌, ◌≤◌, ◌⊎◌, List, [], ◌∷◌, map, length, slice_index, Some}
use Rattle.std.specs.List.{slice_get}
use Rattle.mrs_model.specs.declared.bindings.Pair.{Pair}
use Rattle.mrs_model.specs.declared.search.Step.{Step}
use Rattle.mrs_model.specs.Meanings.{Variable}
use Rattle.mrs_model.specs.Renaming.{IsVariableMap}
use Rattle.mrs_model.specs.Inner.Bindings.{lefts, rights, Binds, Agrees, Keep, IsGrown}
use Rattle.mrs_model.specs.Inner.Elements.{Element, renamed, IsIn}

-- what the search goes over
pub record Task : Type 0 where
  pub left : List Element
  pub right : List Element
  pub vars : List Variable
  pub other_vars : List Variable
  pub given : List Pair

-- a map of variables, and a place for each element at which it stands renamed, each place once
pub record Solves (t : Task) (to : List ℕ) (place : ℕ → ℕ) : Type 0 where
  pub vars : IsVariableMap t.vars t.other_vars to
  pub given : Agrees to t.given
  pub within : (k : ℕ) → k < length t.left → place k < length t.right
  pub apart : (j k : ℕ) → j < k → k < length t.left → place j ≢ place k
  pub renamed_there : (k : ℕ) (x y : Element) → slice_get t.left k ≡ Some x → slice_get t.right (place k) ≡ Some y → renamed to x ≡ y

-- the places that were given, the last one first
abbrev pub places : List Step → List ℕ
places steps = map (λ s. s.place) steps

-- a solution has these places for the first elements
abbrev pub Follows : (ℕ → ℕ) → List ℕ → Type 0
Follows place [] = Unit {0}
Follows place (c ∷ cs) = (place (length cs) ≡ c) × Follows place cs

-- no solution comes before these places: the last is that of the element whose turn it is
abbrev pub IsLeast : Task → List ℕ → Type 0
IsLeast t [] = Unit {0}
IsLeast t (c ∷ cs) = ((to : List ℕ) (place : ℕ → ℕ) → Solves t to place → Follows place cs → c ≤ place (length cs)) × IsLeast t cs

-- the element stands at the other under the pairs
pub record IsJoinedElement (pairs : List Pair) (x y : Element) : Type 0 where
  pub same : (to : List ℕ) → Agrees to pairs → renamed to x ≡ y
  pub bound : (v : ℕ) → IsIn v x → (w : ℕ) × Binds pairs v w

-- the k-th place of a list whose last one stands first
abbrev pub IsAt : List ℕ → ℕ → ℕ → Type 0
IsAt [] k c = ⊥
IsAt (d ∷ ds) k c = ((k ≡ length ds) × (d ≡ c)) ⊎ IsAt ds k c

-- Where a search begins: the given pairs are bound, and what a map of variables that has them has.
pub record Begins (a b : List Variable) (given pairs : List Pair) : Type 0 where
  pub told : (to : List ℕ) → IsVariableMap a b to → Agrees to given → Agrees to pairs
  pub bound : (i : ℕ) → i < length given → Binds pairs (slice_index (lefts given) i) (slice_index (rights given) i)
  pub kept : Keep a b pairs

-- the steps, the last one first, lead from the given pairs to these
pub data Leads (t : Task) : List Step → List Pair → Type 0 where
  begins : (pairs : List Pair) → Begins t.vars t.other_vars t.given pairs → Leads t [] pairs
  goes_on : (steps : List Step) (pairs new : List Pair) (place : ℕ) (x y : Element) → Leads t steps pairs
      → slice_get t.left (length (places steps)) ≡ Some x → slice_get t.right place ≡ Some y
      → ((k : ℕ) → IsAt (places steps) k place → ⊥) → IsGrown t.vars t.other_vars pairs new → IsJoinedElement new x y
      → ((to : List ℕ) → IsVariableMap t.vars t.other_vars to → Agrees to pairs → renamed to x ≡ y → Agrees to new)
      → Leads t (record { place = place; mark = length pairs } ∷ steps) new

-- how much work is left at most at a depth, and by all steps
abbrev pub work : ℕ → ℕ → ℕ
work n zero = 1
work n (suc depth) = n * work n depth + 2

-- what the steps leave
abbrev pub work_left : ℕ → ℕ → List ℕ → ℕ
work_left n elements [] = 0
work_left n elements (c ∷ cs) = (n - (c + 1)) * work n (elements - length cs) + 1 + work_left n elements cs

abbrev pub work_at : ℕ → ℕ → ℕ → List ℕ → ℕ
work_at n elements next cs = (n - next) * work n (elements - length cs) + work_left n elements cs
