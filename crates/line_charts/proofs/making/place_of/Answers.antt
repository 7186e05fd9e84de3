use Rattle.book_signs.specs.Trees.{signs_of}
use Rattle.rule_trees.proofs.LineLemmas.{numbered_below, named_place}
use Rattle.line_charts.proofs.making.place_of.Goals as goal

pub bounds-phrase_rules-rule : goal.bounds-phrase_rules-rule
bounds-phrase_rules-rule c = numbered_below (signs_of c.args.signs.now) c.phrase_rules.result.now c.args.rule c.phrase_rules.ensures c.requires

pub returns : goal.returns
returns c = named_place (signs_of c.args.signs.now) c.phrase_rules.result.now c.args.rule 0 c.phrase_rules.ensures c.requires
