use Rattle.std.proofs.Common.{◌≡◌, ◌++◌, map, length}
use Rattle.lkb_io.specs.Lines.{lines_of}
use Rattle.profile_reports.specs.Profiles.{trees_before}
use Rattle.profile_reports.proofs.items.trees_before.Given as goal

abbrev pub invariant-loop-rest : goal.invariant-loop-rest
invariant-loop-rest l = map (λ t. t.items) l.trees.items ++ trees_before (lines_of l.rest) ≡ trees_before (lines_of l.bytes)

abbrev pub decreases-loop-rest : goal.decreases-loop-rest
decreases-loop-rest l = length l.rest
