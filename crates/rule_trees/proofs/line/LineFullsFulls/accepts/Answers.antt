use Rattle.std.proofs.Common.{map}
use Rattle.book_signs.specs.Trees.{signs_of}
use Rattle.lexical_items.specs.Views.{lexeme_seen}
use Rattle.rule_trees.specs.Mothers.{view_in}
use Rattle.rule_trees.proofs.OweLemmas.{reached_made}
use Rattle.rule_trees.proofs.line.LineFullsFulls.accepts.Goals as goal

pub is_rooted-requires : goal.is_rooted-requires
is_rooted-requires c =
    let t = c.args.self.now.signs.now in
    reached_made (signs_of t) (map (lexeme_seen (λ full. view_in t full.graph)) c.args.self.now.leaves.now) c.args.self.now.end (view_in t c.args.full.now.graph) c.requires
