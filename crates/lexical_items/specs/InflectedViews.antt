-- What contracts see of the lexical trees of a grammar.
use Rattle.std.specs.Arc.{arc_value}
use Rattle.derivation.specs.Views.{derivation_of}
use Rattle.tree_model.specs.Structures.{Structure}
use Rattle.lexical_items.specs.declared.tree.InflectedTree.{InflectedTree}
use Rattle.lexical_items.specs.Inflected.{WordTree}

abbrev pub tree_seen : {T : Type 0} → (T → Structure) → InflectedTree T → WordTree
tree_seen value x = record { tree = derivation_of x.tree; full = value (arc_value x.full) }
