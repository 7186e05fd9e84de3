-- Sets of open holes, and what the sets of a state have.
use Rattle.std.specs.Prelude.{ℕ, ◌≡◌, ◌<◌, ◌-◌, ◌^◌, ◌==◌, ◌⊎◌, min, Bool, true, false, ◌↔◌, List, length, slice_index_or, Contains}
use Rattle.std.specs.Int.{bit_at}
use Rattle.scope_model.specs.declared.Opening.{Opening}
use Rattle.scope_model.specs.declared.Quantifier.{Quantifier}
use Rattle.scope_model.specs.Frames.{Frame}
use Rattle.scope_model.specs.States.{State, IsOnWay, IsByBodies}
use Rattle.scope_resolve.specs.declared.hole_set.HoleSet.{HoleSet}

-- the places from 63 on share the last bit
abbrev pub seat : ℕ → ℕ
seat place = min place 63

-- whether the set has the open hole at this place
abbrev pub has : HoleSet → ℕ → Bool
has s place = bit_at s.bits (seat place) == 1

-- the set that has each
abbrev pub every : HoleSet
every = record { bits = 2 ^ 64 - 1 }

-- what a table has at a number: past the end all open holes
abbrev pub set_at : List HoleSet → ℕ → HoleSet
set_at sets number = slice_index_or sets number every

-- this stands at the place
abbrev pub IsAt : {X : Type 0} → List X → ℕ → X → Type 0
IsAt xs place x = (place < length xs) × (slice_index_or xs place x ≡ x)

-- no set loses an open hole
abbrev pub Grows : List HoleSet → List HoleSet → Type 0
Grows old new = (number place : ℕ) → has (set_at old number) place ≡ true → has (set_at new number) place ≡ true

-- what is marked, as far as the table goes
abbrev pub AreMarks : (ℕ → Type 0) → List Bool → Type 0
AreMarks P marks = (v : ℕ) → v < length marks → (slice_index_or marks v false ≡ true) ↔ P v

-- each of the first open holes is in the sets of itself and of its label
pub record AreBegun (bodies : List Bool) (opens : List Opening) (count : ℕ) (below under chain : List HoleSet) : Type 0 where
  pub hole : (place : ℕ) (o : Opening) → place < count → IsAt opens place o → has (set_at below o.hole) place ≡ true
  pub label : (place : ℕ) (o : Opening) → place < count → IsAt opens place o → has (set_at under o.label) place ≡ true
  pub body : (place : ℕ) (o : Opening) → place < count → IsAt opens place o → slice_index_or bodies o.hole false ≡ true → has (set_at chain o.label) place ≡ true

-- the set of each hole has the open holes that are this hole or lie under it
abbrev pub AreBelow : Frame → State → List Opening → List HoleSet → Type 0
AreBelow f s opens below = (place : ℕ) (o : Opening) (h : ℕ) → IsAt opens place o → (o.hole ≡ h) ⊎ IsOnWay f s h o.label → has (set_at below h) place ≡ true

-- the set of each label has the open BODYs that are reached from it through BODYs alone
abbrev pub AreReached : Frame → State → List Opening → List HoleSet → Type 0
AreReached f s opens chain =
    (place : ℕ) (o : Opening) (q : Quantifier) (a : ℕ) → IsAt opens place o → Contains f.quantifiers q → q.label ≡ o.label → q.body ≡ o.hole → IsByBodies f s a o.label → has (set_at chain a) place ≡ true
