-- Which variables stand somewhere, as they are marked one after the other, and the numbers that those that are left get.
use Rattle.std.specs.Prelude.{ℕ, ◌≡◌, ◌+◌, ◌<◌, ◌↔◌, ◌⊎◌, Bool, true, false, List, [], ◌∷◌, length, map, slice_index, slice_index_or}
use Rattle.mrs_model.specs.Meanings.{Meaning}
use Rattle.mrs_model.specs.Renaming.{renamed_constraint}
use Rattle.mrs_model.specs.Valid.{Stands}
use Rattle.transfer_model.specs.Applying.{renumbered}

-- the marks are those of before, and those of the numbers that meet P
pub record IsMarked (P : ℕ → Type 0) (old new : List Bool) : Type 0 where
  pub size : length new ≡ length old
  pub marks : (v : ℕ) → v < length old → (slice_index_or new v false ≡ true) ↔ ((slice_index_or old v false ≡ true) ⊎ P v)

-- exactly the variables that stand somewhere are marked
pub record AreStanding (m : Meaning) (bits : List Bool) : Type 0 where
  pub size : length bits ≡ length m.vars
  pub marks : (v : ℕ) → v < length m.vars → (slice_index_or bits v false ≡ true) ↔ Stands m v

-- the numbers of the marks, from this number on
abbrev pub marked_from : ℕ → List Bool → List ℕ
marked_from n [] = []
marked_from n (true ∷ bs) = n ∷ marked_from (n + 1) bs
marked_from n (false ∷ bs) = marked_from (n + 1) bs

abbrev pub kept_by : List Bool → List ℕ
kept_by marks = marked_from 0 marks

-- all but the list of variables: each variable has another number wherever it stands
pub record IsRenumbered (to : List ℕ) (a b : Meaning) : Type 0 where
  pub top : b.top ≡ slice_index to a.top
  pub index : b.index ≡ slice_index to a.index
  pub eps : b.eps ≡ map (renumbered to) a.eps
  pub hcons : b.hcons ≡ map (renamed_constraint to) a.hcons
  pub icons : b.icons ≡ map (renamed_constraint to) a.icons
