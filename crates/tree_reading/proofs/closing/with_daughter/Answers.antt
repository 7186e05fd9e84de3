use Rattle.tree_reading.specs.Inner.Closed.{tree_of}
use Rattle.tree_reading.proofs.Pushing.{trees_more, counted_more}
use Rattle.tree_reading.proofs.closing.with_daughter.Goals as goal

pub returns-clause-trees : goal.returns-clause-trees
returns-clause-trees c = trees_more c.args.rule.daughters.items c.push.new.self.items c.in_ok-tree_of.field-0 (tree_of c.args.child) c.in_ok-push.ensures.items c.in_ok-tree_of.ensures.is

pub returns-clause-counted : goal.returns-clause-counted
returns-clause-counted c =
    counted_more c.args.rule.daughters.items c.push.new.self.items c.in_ok-tree_of.field-0 c.in_ok-push.ensures.items c.requires.counted (c.in_ok-tree_of.ensures.counted c.requires.child)
