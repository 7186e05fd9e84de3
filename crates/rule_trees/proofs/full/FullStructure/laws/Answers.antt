use Rattle.rule_trees.proofs.BoundLemmas.{made_seen, made_short}
use Rattle.rule_trees.proofs.full.FullStructure.laws.Goals as goal

pub returns-clause-seen : goal.returns-clause-seen
returns-clause-seen c = made_seen c.args.signs.now c.args.self.now.graph c.requires

pub returns-clause-short : goal.returns-clause-short
returns-clause-short c = made_short c.args.signs.now c.args.self.now.graph c.requires
