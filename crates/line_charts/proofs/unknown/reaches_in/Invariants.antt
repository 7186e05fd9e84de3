use Rattle.std.proofs.Common.{◌≡◌, map, take}
use Rattle.derivation.specs.Views.{derivation_of}
use Rattle.line_charts.specs.Inner.Reaches.{reach_seen, reaches_in}
use Rattle.line_charts.proofs.unknown.reaches_in.Given as goal

abbrev pub invariant-loop-tree : goal.invariant-loop-tree
invariant-loop-tree g l = map reach_seen l.reaches.items ≡ reaches_in l.single (map (λ t. derivation_of t.tree) (take l.tree-index l.trees))
