-- What is written by parts, and which variables were written after them.
use Rattle.std.specs.Prelude.{ℕ, ◌≡◌, ◌<◌, List, [], ◌∷◌, ◌++◌, length, slice_index, codes}
use Rattle.mrs_model.specs.Meanings.{Variable, Meaning}
use Rattle.mrs_text.specs.Written.{Part, bytes, variable, seen_all, text_after}

-- the variables that were written, in order of first occurrence, and how many there are in all
pub record Known : Type 0 where
  pub order : List ℕ
  pub size : ℕ

-- each has its place at its slot
pub record AreSlots (order slots : List ℕ) : Type 0 where
  pub within : (i : ℕ) → i < length order → slice_index order i < length slots
  pub placed : (i : ℕ) → i < length order → slice_index slots (slice_index order i) ≡ i

-- the text of the parts came to the old one, and their variables to those that were written
pub record IsWritten (vars : List Variable) (ps : List Part) (seen : Known) (old : List ℕ) (after : Known) (new : List ℕ) : Type 0 where
  pub text : new ≡ old ++ text_after vars seen.order ps
  pub order : after.order ≡ seen_all seen.order ps

-- the parts before the first elementary predication
abbrev pub first_parts : Meaning → List Part
first_parts m = bytes (codes "[ TOP: ") ∷ variable m.top ∷ bytes (codes " INDEX: ") ∷ variable m.index ∷ bytes (codes " RELS: <") ∷ []
