use Rattle.std.proofs.Common.{map}
use Rattle.mrs_places.specs.Paths.{paths_of}
use Rattle.book_signs.specs.Trees.{signs_of, entries_of, lexical_rules_of}
use Rattle.lexical_items.specs.Said.{words_said}
use Rattle.rule_trees.specs.Mothers.{view_in}
use Rattle.lexical_items.specs.InflectedViews.{tree_seen}
use Rattle.generated_leaves.specs.Views.{told_seen}
use Rattle.generated_leaves.proofs.Telling.{all_told, fulls_in}
use Rattle.generated_leaves.proofs.told.told_trees.Goals as goal

pub inflected_trees-requires-clause-grammar : goal.inflected_trees-requires-clause-grammar
inflected_trees-requires-clause-grammar c = record { numbered = c.requires.numbered; feeds = c.requires.feeds }

pub told_each-requires-clause-full : goal.told_each-requires-clause-full
told_each-requires-clause-full c =
    let s = c.args.grammar.now.fulls.now.signs.now in
    let g = signs_of s in
    fulls_in g (words_said (entries_of g) (lexical_rules_of g) c.args.grammar.now.lexicon.now c.args.grammar.now.spelling.now) c.args.most (map (tree_seen (λ full. view_in s full.graph)) c.in_ok-trees.trees.items) c.in_ok-trees.ensures

pub returns : goal.returns
returns c =
    let s = c.args.grammar.now.fulls.now.signs.now in
    let g = signs_of s in
    all_told g s.book.system.types (paths_of c.args.paths.now) (words_said (entries_of g) (lexical_rules_of g) c.args.grammar.now.lexicon.now c.args.grammar.now.spelling.now) c.args.most
    (map (tree_seen (λ full. view_in s full.graph)) c.in_ok-trees.trees.items) (map (told_seen s) c.in_ok-told.told.items) c.in_ok-trees.ensures c.in_ok-told.ensures
