use Rattle.book_signs.specs.Trees.{signs_of}
use Rattle.rule_trees.proofs.PlaceLemmas.{entry_places, lexical_places}
use Rattle.rule_trees.proofs.lexical.SignFullsLexicalFulls.laws.Goals as goal

pub returns-clause-entry_places : goal.returns-clause-entry_places
returns-clause-entry_places c = entry_places (signs_of c.args.self.now.signs.now)

pub returns-clause-rule_places : goal.returns-clause-rule_places
returns-clause-rule_places c = lexical_places (signs_of c.args.self.now.signs.now)
