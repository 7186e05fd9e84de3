use Rattle.std.proofs.Common.{All, map, take}
use Rattle.book_signs.specs.Trees.{signs_of}
use Rattle.generated_leaves.specs.Views.{leaf_seen}
use Rattle.grammar_shapes.specs.Systems.{meaning_of, Belongs}
use Rattle.mrs_generate.specs.Inner.Lined.{AreLined, MayStand}
use Rattle.mrs_generate.proofs.leaves.chart_leaves.Given as goal

abbrev pub invariant-loop-leaf : goal.invariant-loop-leaf
invariant-loop-leaf l =
    record {
      lined : AreLined (signs_of l.signs) (meaning_of l.shapes) (map (leaf_seen l.signs) (take l.leaf-index l.leaves)) l.into.items;
      stand : All (MayStand (Belongs l.shapes) l.bound) l.into.items;
    }
