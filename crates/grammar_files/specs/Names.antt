-- Names, each once.
use Rattle.std.specs.Prelude.{ℕ, Bool, List, [], ◌∷◌, ◌++◌, if◌then◌else◌}
use Rattle.std.specs.List.{list_any}
use Rattle.std.specs.Str.{bytes_eq}

-- the name is among these
abbrev pub has_name : List (List ℕ) → List ℕ → Bool
has_name names n = list_any (bytes_eq n) names

-- the names, and those of the others that aren't among them yet, in turn
abbrev pub with_each : List (List ℕ) → List (List ℕ) → List (List ℕ)
with_each ns [] = ns
with_each ns (x ∷ xs) = with_each (if has_name ns x then ns else ns ++ x ∷ []) xs
