-- Which predicates an MRS may have: each has a place in a table, by its text, which several may share.
use Rattle.std.specs.Prelude.{ℕ, ◌≡◌, ◌+◌, ◌*◌, ◌%◌, Bool, true, false, List, [], ◌∷◌, length, All, slice_index_or}
use Rattle.mrs_model.specs.Meanings.{Predication}

unfoldable pub place_step : ℕ → ℕ → ℕ
place_step place byte = (place * 31 + byte) % 4096

abbrev pub place_from : ℕ → List ℕ → ℕ
place_from place [] = place
place_from place (b ∷ bs) = place_from (place_step place b) bs

-- the place of a predicate
abbrev pub place_of : List ℕ → ℕ
place_of text = place_from 0 text

-- the predicates of all of these are marked
pub record ArePresent (places : List Bool) (eps : List Predication) : Type 0 where
  pub size : length places ≡ 4096
  pub each : All (λ e. slice_index_or places (place_of e.pred) false ≡ true) eps
