-- The order that parents give.
use Rattle.std.specs.Prelude.{ℕ, List, [], ◌∷◌, slice_index_or}

-- x is an element of the list
pub data Has {X : Type 0} (x : X) : List X → Type 0 where
  here : {ys : List X} → Has x (x ∷ ys)
  there : {y : X} {ys : List X} → Has x ys → Has x (y ∷ ys)

-- at or below: along parents
pub data IsAtOrBelow (parents : List (List ℕ)) : ℕ → ℕ → Type 0 where
  itself : (t : ℕ) → IsAtOrBelow parents t t
  above_parent : (t p u : ℕ) → Has p (slice_index_or parents t []) → IsAtOrBelow parents p u → IsAtOrBelow parents t u

-- below: at or below a parent
abbrev pub IsBelow : List (List ℕ) → ℕ → ℕ → Type 0
IsBelow parents t u = (p : ℕ) × Has p (slice_index_or parents t []) × IsAtOrBelow parents p u
