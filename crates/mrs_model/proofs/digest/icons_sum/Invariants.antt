use Rattle.std.proofs.Common.{◌≡◌, ◌%◌, ◌^◌, map, take}
use Rattle.std.specs.List.{sum_by}
use Rattle.mrs_model.specs.Views.{icon_of}
use Rattle.mrs_model.specs.Digest.{icon_key}
use Rattle.mrs_model.proofs.digest.icons_sum.Given as goal

abbrev pub invariant-loop-icon : goal.invariant-loop-icon
invariant-loop-icon l = l.sum ≡ sum_by icon_key (map icon_of (take l.icon-index l.icons)) % 2 ^ 64
