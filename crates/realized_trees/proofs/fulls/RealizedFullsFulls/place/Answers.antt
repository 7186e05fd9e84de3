use Rattle.book_signs.specs.Trees.{signs_of}
use Rattle.rule_trees.proofs.LineLemmas.{numbered_below, named_place}
use Rattle.realized_trees.proofs.fulls.RealizedFullsFulls.place.Goals as goal

pub bounds-phrase_rules-rule : goal.bounds-phrase_rules-rule
bounds-phrase_rules-rule c = numbered_below (signs_of c.args.self.now.signs.now) c.phrase_rules.result.now c.args.rule c.phrase_rules.ensures c.requires.1.0

pub returns : goal.returns
returns c = named_place (signs_of c.args.self.now.signs.now) c.phrase_rules.result.now c.args.rule 0 c.phrase_rules.ensures c.requires.1.0
