use Rattle.std.proofs.Common.{◌≡◌, ◌++◌, take}
use Rattle.fs_unify.specs.Inner.Hanging.{kept_row}
use Rattle.fs_unify.proofs.debts.push_kept.Given as goal

abbrev pub invariant-loop-arc : goal.invariant-loop-arc
invariant-loop-arc l = l.arcs.items ≡ l.fn.arcs.items ++ kept_row l.hanging.hang.items l.hanging.lead.items (take l.arc-index l.row)
