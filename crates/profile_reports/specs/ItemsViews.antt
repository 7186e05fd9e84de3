-- The items that the program keeps, as profiles say them.
use Rattle.std.specs.Prelude.{ℕ, List, map, string_bytes}
use Rattle.profile_reports.specs.Profiles.{Item, too_long, not_utf8, no_item, an_item}
use Rattle.profile_reports.specs.declared.profiles.ProfileItem.{ProfileItem}
use Rattle.profile_reports.specs.declared.profiles.ProfileItem.TheVariants.{TooLong, NotUtf8, NoItem, Item as Written}

abbrev pub item_kept : ProfileItem → Item
item_kept TooLong = too_long
item_kept NotUtf8 = not_utf8
item_kept NoItem = no_item
item_kept (Written expected sentence trees) = an_item expected (string_bytes sentence) (map (λ t. t.items) trees.items)
