-- Elementary predications with those of OUTPUT in the place of a removed one.
use Rattle.std.specs.Prelude.{ℕ, ◌+◌, ◌==◌, List, [], ◌∷◌, ◌++◌, if◌then◌else◌}
use Rattle.mrs_model.specs.Meanings.{Predication}
use Rattle.transfer_model.specs.Applying.{has}

-- what becomes of those from this number on: the removed ones are gone, and the new ones stand in the place of the first
abbrev pub placed : List ℕ → ℕ → List Predication → ℕ → List Predication → List Predication
placed gone first new k [] = []
placed gone first new k (e ∷ es) = (if k == first then new else []) ++ ((if has gone k then [] else e ∷ []) ++ placed gone first new (k + 1) es)
