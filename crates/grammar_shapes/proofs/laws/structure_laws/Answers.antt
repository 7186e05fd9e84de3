use Rattle.grammar_shapes.proofs.RangeLemmas.{short_where}
use Rattle.grammar_shapes.proofs.laws.structure_laws.Goals as goal

pub returns : goal.returns
returns c = short_where c.args._system.now c.args.graph.now c.laws.ensures c.requires.in_range c.requires.consistent
