-- Cuts within cuts.
use Rattle.std.specs.Prelude.{◌≡◌, ◌&&◌, Bool, true}
use Rattle.std.specs.List.{list_all}
use Rattle.fs_model.specs.Claims.{Path}
use Rattle.tree_model.specs.Cuts.{Cut, has_feature, is_kept}

-- what the second cut keeps, the first one keeps
abbrev pub CutsNoMore : Cut → Cut → Type 0
CutsNoMore first second = (p : Path) → is_kept second p ≡ true → is_kept first p ≡ true

-- all that the first cut cuts off, the second cuts off wherever it stands
abbrev pub cuts_no_more : Cut → Cut → Bool
cuts_no_more first second = list_all (has_feature second.anywhere) first.at_root && list_all (has_feature second.anywhere) first.anywhere
