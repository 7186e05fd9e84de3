use Rattle.std.proofs.Common.{◌≡◌, ◌++◌, map, length}
use Rattle.lkb_io.specs.Lines.{lines_of}
use Rattle.profile_reports.specs.Profiles.{items_in}
use Rattle.profile_reports.specs.ItemsViews.{item_kept}
use Rattle.profile_reports.proofs.items.items_of.Given as goal

abbrev pub invariant-loop-rest : goal.invariant-loop-rest
invariant-loop-rest l = map item_kept l.items.items ++ items_in (lines_of l.rest) ≡ items_in (lines_of l.text)

abbrev pub decreases-loop-rest : goal.decreases-loop-rest
decreases-loop-rest l = length l.rest
