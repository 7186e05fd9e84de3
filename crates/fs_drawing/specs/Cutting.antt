-- What is left of a unification where features are cut off.
use Rattle.std.specs.Prelude.{ℕ, ◌==◌, ◌||◌, Bool, false, if◌then◌else◌, Option, Some, None, List, [], ◌∷◌}
use Rattle.std.specs.List.{list_any}
use Rattle.fs_model.specs.Claims.{Path, System}
use Rattle.fs_model.specs.Sources.{Reader, Source, IsSameStructure, IsUnified}

abbrev pub is_one_of : List ℕ → ℕ → Bool
is_one_of feats f = list_any (λ g. g == f) feats

abbrev pub begins_with : List ℕ → Path → Bool
begins_with feats [] = false
begins_with feats (f ∷ p) = is_one_of feats f

-- a path begins with a feature that is cut off at the root, or holds one that is cut off anywhere
abbrev pub is_cut_off : List ℕ → List ℕ → Path → Bool
is_cut_off at_root anywhere p = begins_with at_root p || list_any (is_one_of anywhere) p

-- a structure without the paths that begin with a feature that is cut off at the root, or hold one that is cut off anywhere
abbrev pub without : List ℕ → List ℕ → Reader → Reader
without at_root anywhere r = record { node_at = λ p. if is_cut_off at_root anywhere p then None else r.node_at p; type_of = r.type_of }

-- a graph shows what is left of a structure
abbrev pub IsLeftOf : List ℕ → List ℕ → Reader → Reader → Type 0
IsLeftOf at_root anywhere whole left = IsSameStructure (without at_root anywhere whole) left

-- what is left of a unification, and of which
pub record IsLeftUnifier (s : System) (source : Source) (at_root anywhere : List ℕ) (left : Reader) : Type 0 where
  pub whole : Reader
  pub unified : IsUnified s source (Some whole)
  pub is_left : IsLeftOf at_root anywhere whole left

-- what unification answers where features are cut off: none exactly where the closure is inconsistent
abbrev pub IsUnifiedWithout : System → Source → List ℕ → List ℕ → Option Reader → Type 0
IsUnifiedWithout s source at_root anywhere None = IsUnified s source None
IsUnifiedWithout s source at_root anywhere (Some left) = IsLeftUnifier s source at_root anywhere left
