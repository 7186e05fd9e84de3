use Rattle.std.proofs.Common.{◌≡◌, map}
use Rattle.chart_core.specs.Leaves.{leaf_seen}
use Rattle.packed_items.proofs.sieving.leaves_over.Given as goal

abbrev pub invariant-loop-leaf : goal.invariant-loop-leaf
invariant-loop-leaf g l = map (leaf_seen (λ shape. shape)) l.over.items ≡ map (leaf_seen (λ shape. shape)) l.yielded
