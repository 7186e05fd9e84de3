use Rattle.book_signs.specs.Trees.{signs_of, lexical_rules_of}
use Rattle.rule_trees.proofs.PlaceLemmas.{has_at, one_daughter}
use Rattle.rule_trees.proofs.lexical.SignFullsLexicalFulls.may_follow.Goals as goal

pub may_follow-requires-clause-inner : goal.may_follow-requires-clause-inner
may_follow-requires-clause-inner c =
    let g = signs_of c.args.self.now.signs.now in
    one_daughter g c.args.inner c.laws.ensures.arities (has_at (lexical_rules_of g) c.requires.inner.0 c.args.inner c.requires.inner.1)

pub may_follow-requires-clause-outer : goal.may_follow-requires-clause-outer
may_follow-requires-clause-outer c =
    let g = signs_of c.args.self.now.signs.now in
    one_daughter g c.args.outer c.laws.ensures.arities (has_at (lexical_rules_of g) c.requires.outer.0 c.args.outer c.requires.outer.1)
