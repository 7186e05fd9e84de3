-- Variables of one MRS that are bound to variables of another.
use Rattle.std.specs.Prelude.{ℕ, ◌≡◌, ◌<◌, ◌⊎◌, List, [], ◌∷◌, ◌++◌, map, length, slice_index}
use Rattle.mrs_model.specs.declared.bindings.Pair.{Pair}
use Rattle.mrs_model.specs.Renaming.{renamed_filler, renamed_argument}
use Rattle.mrs_model.specs.Meanings.{Variable, Filler, of_var, Argument}
use Rattle.std.specs.List.{slice_get, Any}

abbrev pub lefts : List Pair → List ℕ
lefts pairs = map (λ p. p.left) pairs

abbrev pub rights : List Pair → List ℕ
rights pairs = map (λ p. p.right) pairs

-- the pair is among them
abbrev pub Binds : List Pair → ℕ → ℕ → Type 0
Binds pairs x y = (i : ℕ) × (i < length pairs) × (slice_index (lefts pairs) i ≡ x) × (slice_index (rights pairs) i ≡ y)

-- a map of variables has all pairs
abbrev pub Agrees : List ℕ → List Pair → Type 0
Agrees to pairs = (i : ℕ) → i < length pairs → slice_index to (slice_index (lefts pairs) i) ≡ slice_index (rights pairs) i

-- each pair is found at its place by both of its variables
pub record AreSlots (pairs : List Pair) (from onto : List ℕ) : Type 0 where
  pub even : length onto ≡ length from
  pub left_in : (i : ℕ) → i < length pairs → slice_index (lefts pairs) i < length from
  pub right_in : (i : ℕ) → i < length pairs → slice_index (rights pairs) i < length from
  pub left_at : (i : ℕ) → i < length pairs → slice_index from (slice_index (lefts pairs) i) ≡ i
  pub right_at : (i : ℕ) → i < length pairs → slice_index onto (slice_index (rights pairs) i) ≡ i

-- the pairs, and how many variables there are on either side
pub record Bound : Type 0 where
  pub pairs : List Pair
  pub size : ℕ

-- no more than this pair came to them
abbrev pub IsNext : List Pair → List Pair → ℕ → ℕ → Type 0
IsNext old new x y = (new ≡ old) ⊎ (new ≡ old ++ record { left = x; right = y } ∷ [])

-- the pairs are of variables with the same sort and properties
abbrev pub Keep : List Variable → List Variable → List Pair → Type 0
Keep a b pairs = (i : ℕ) → i < length pairs → slice_get b (slice_index (rights pairs) i) ≡ slice_get a (slice_index (lefts pairs) i)

-- some pairs came to them, of variables with the same sort and properties
pub record IsGrown (a b : List Variable) (old new : List Pair) : Type 0 where
  pub more : List Pair
  pub front : new ≡ old ++ more
  pub kept : Keep a b old → Keep a b new

-- whatever map has all pairs makes the one of the other, and what stands in the first is bound
pub record IsJoinedFiller (pairs : List Pair) (x y : Filler) : Type 0 where
  pub same : (to : List ℕ) → Agrees to pairs → renamed_filler to x ≡ y
  pub bound : (v : ℕ) → x ≡ of_var v → (w : ℕ) × Binds pairs v w

pub record IsJoinedArgument (pairs : List Pair) (x y : Argument) : Type 0 where
  pub same : (to : List ℕ) → Agrees to pairs → renamed_argument to x ≡ y
  pub bound : (v : ℕ) → x.filler ≡ of_var v → (w : ℕ) × Binds pairs v w

pub record AreJoinedArguments (pairs : List Pair) (xs ys : List Argument) : Type 0 where
  pub same : (to : List ℕ) → Agrees to pairs → map (renamed_argument to) xs ≡ ys
  pub bound : (v : ℕ) → Any (λ a. a.filler ≡ of_var v) xs → (w : ℕ) × Binds pairs v w
