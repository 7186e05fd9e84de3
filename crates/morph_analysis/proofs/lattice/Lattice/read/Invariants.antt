use Rattle.std.proofs.Common.{map, take}
use Rattle.morph_analysis.specs.LatticeViews.{step_of}
use Rattle.morph_analysis.specs.Inner.Lines.{item_of, HasRead}
use Rattle.morph_analysis.proofs.lattice.Lattice.read.Given as goal

abbrev pub invariant-loop-item : goal.invariant-loop-item
invariant-loop-item l = HasRead (map item_of (take l.item-index l.item-items)) (map step_of l.steps.keys) l.end
