use Rattle.std.proofs.Common.{◌≡◌, take}
use Rattle.type_hierarchy.specs.Inner.Reach.{lists}
use Rattle.type_hierarchy.specs.Inner.Tables.{sets_of}
use Rattle.glb_completion.proofs.completion.member_lists.Given as goal

abbrev pub invariant-loop-row : goal.invariant-loop-row
invariant-loop-row l = lists l.members.items ≡ sets_of l.count (take l.row-index l.rows)
