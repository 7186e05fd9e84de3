-- What contracts ask of the items that are given to `batch`.
use Rattle.std.specs.Prelude.{ℕ, length}
use Rattle.profile_reports.specs.declared.profiles.ProfileItem.{ProfileItem}
use Rattle.profile_reports.specs.declared.profiles.ProfileItem.TheVariants.{Item as Written}

-- how many trees are written for an item
abbrev pub trees_of : ProfileItem → ℕ
trees_of (Written expected sentence trees) = length trees.items
trees_of other = 0
