-- The paths at which types are compared.
use Rattle.std.specs.Prelude.{ℕ, List, [], ◌∷◌, Option, None, Some, option_map}
use Rattle.fs_model.specs.Claims.{Path}

-- a path of features that the grammar has; none where it lacks one, for such a path is in no structure
abbrev pub path_known : List (Option ℕ) → Option Path
path_known [] = Some []
path_known (None ∷ fs) = None
path_known (Some f ∷ fs) = option_map (λ p. f ∷ p) (path_known fs)

abbrev pub add_path : Option Path → List Path → List Path
add_path None ps = ps
add_path (Some p) ps = p ∷ ps

-- those of some paths whose features the grammar has, in order
abbrev pub paths_known : List (List (Option ℕ)) → List Path
paths_known [] = []
paths_known (fs ∷ more) = add_path (path_known fs) (paths_known more)
