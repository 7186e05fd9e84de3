use Rattle.book_signs.specs.Trees.{signs_of}
use Rattle.rule_trees.specs.Mothers.{view_in}
use Rattle.generated_leaves.proofs.told.preds_of.Goals as goal

pub closed_of-requires-clause-made : goal.closed_of-requires-clause-made
closed_of-requires-clause-made c = c.structure_laws.ensures.made (signs_of c.args.signs.now) c.requires.full.0 (view_in c.args.signs.now c.args.full.now.graph) c.requires.full.1

pub closed_of-requires-clause-sound : goal.closed_of-requires-clause-sound
closed_of-requires-clause-sound c = c.structure_laws.ensures.sound (signs_of c.args.signs.now) c.requires.full.0 (view_in c.args.signs.now c.args.full.now.graph) c.requires.full.1
