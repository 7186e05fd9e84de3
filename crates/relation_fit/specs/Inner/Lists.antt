-- Paths that daughters don't stand on.
use Rattle.std.specs.Prelude.{ℕ, Bool, false, not, List, [], ◌∷◌}
use Rattle.fs_model.specs.Claims.{Path}
use Rattle.tree_model.specs.Cuts.{has_feature}

-- the path has a first feature, which isn't among these
abbrev pub begins_apart : Path → List ℕ → Bool
begins_apart [] fs = false
begins_apart (f ∷ p) fs = not (has_feature fs f)
