use Rattle.std.proofs.Common.{◌≡◌, ◌++◌, take}
use Rattle.scope_resolve.specs.Inner.Pruning.{may_stand, those}
use Rattle.scope_resolve.proofs.choosing.put_candidates.Given as goal

abbrev pub invariant-loop-k : goal.invariant-loop-k
invariant-loop-k l = l.out.items ≡ l.fn.out.items ++ those (may_stand l.ways.placed.items l.masks.sets.items l.net.is_label.items l.place l.hole) (take l.k l.net.labels.items)
