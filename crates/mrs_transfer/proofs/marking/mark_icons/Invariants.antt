use Rattle.std.specs.Prelude.{map, take}
use Rattle.std.specs.List.{Any}
use Rattle.mrs_model.specs.Valid.{IsEnd}
use Rattle.mrs_model.specs.Views.{icon_of}
use Rattle.mrs_transfer.specs.Inner.Trimming.{IsMarked}
use Rattle.mrs_transfer.proofs.marking.mark_icons.Given as goal

abbrev pub invariant-loop-icon : goal.invariant-loop-icon
invariant-loop-icon l = IsMarked (λ v. Any (IsEnd v) (map icon_of (take l.icon-index l.icons))) l.fn.marks l.marks
