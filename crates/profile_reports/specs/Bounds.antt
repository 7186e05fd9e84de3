-- How large the parts of an item are.
use Rattle.std.specs.Prelude.{ℕ, ◌≤◌, length}
use Rattle.profile_reports.specs.Profiles.{Item, too_long, not_utf8, no_item, an_item}

-- the sentence has at most 65,535 bytes, and at most so many trees are written for it
abbrev pub IsWithin : ℕ → Item → Type 0
IsWithin n (an_item expected sentence trees) = (length sentence ≤ 65535) × (length trees ≤ n)
IsWithin n other = Unit {0}
