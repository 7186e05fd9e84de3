-- What is given for several things.
use Rattle.std.specs.Prelude.{◌≡◌, ℕ, suc, List, [], ◌∷◌, Some, slice_get}

-- What is given for each of these things, which stand at the places from this one on. The first argument says it for one of them, by its
-- place, the thing, and what is given.
pub data AreGiven {T O : Type 0} (gives : ℕ → T → O → Type 0) : ℕ → List T → List O → Type 0 where
  no_thing : (n : ℕ) → AreGiven gives n [] []
  a_thing : (n : ℕ) (x : T) (xs : List T) (y : O) (ys : List O) → gives n x y → AreGiven gives (suc n) xs ys → AreGiven gives n (x ∷ xs) (y ∷ ys)

-- This is known of each of these things, the first of which stands at the place 0.
abbrev pub AreReady : {T : Type 0} → (ℕ → T → Type 0) → List T → Type 0
AreReady {T} ready things = (place : ℕ) (thing : T) → slice_get things place ≡ Some thing → ready place thing
