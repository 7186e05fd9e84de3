use Rattle.std.proofs.Common.{◌≡◌, ◌++◌, take}
use Rattle.fs_trim.specs.Cutting.{cut_of}
use Rattle.fs_trim.specs.Inner.Rows.{left}
use Rattle.fs_trim.proofs.kept.push_left.Given as goal

abbrev pub invariant-loop-arc : goal.invariant-loop-arc
invariant-loop-arc l = l.arcs.items ≡ l.fn.arcs.items ++ left (cut_of l.cut) l.is_root (take l.arc-index l.row)
