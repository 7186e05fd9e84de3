use Rattle.book_signs.specs.Trees.{signs_of}
use Rattle.lexical_items.specs.Views.{lexeme_seen}
use Rattle.rule_trees.specs.Mothers.{view_in}
use Rattle.rule_trees.proofs.OweLemmas.{named_below}
use Rattle.rule_trees.proofs.line.LineFullsFulls.leaf.Goals as goal

pub bounds-self-name : goal.bounds-self-name
bounds-self-name c =
    let t = c.args.self.now.signs.now in
    named_below (signs_of t) (lexeme_seen (λ full. view_in t full.graph)) c.args.self.now.leaves.now c.args.name c.requires
