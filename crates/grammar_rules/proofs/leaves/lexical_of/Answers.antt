use Rattle.std.proofs.Common.{◌∙◌, sym, ap, subst}
use Rattle.morph_analysis.specs.LatticeViews.{lattice_of}
use Rattle.book_signs.specs.Trees.{signs_of, entries_of, lexical_rules_of}
use Rattle.rule_trees.specs.Mothers.{view_in}
use Rattle.lexical_items.specs.Listed.{IsLexicalAnswer}
use Rattle.lexical_items.specs.Said.{words_said}
use Rattle.lexical_items.specs.Seen.{lattice_seen}
use Rattle.lexical_items.specs.Views.{lexical_seen}
use Rattle.grammar_rules.specs.Lines.{AreFeedsOf, HaveAll}
use Rattle.grammar_rules.specs.Remembered.{MemoryTree}
use Rattle.grammar_rules.proofs.leaves.lexical_of.Goals as goal

pub lexical_trees-requires-clause-grammar : goal.lexical_trees-requires-clause-grammar
lexical_trees-requires-clause-grammar c =
    let same = sym (c.fulls-fulls.ensures ∙ ap (λ (m : MemoryTree). m.signs) c.requires.grammar.shared) in
    record {
      numbered = subst (λ t. HaveAll t c.args.grammar.now.lexicon.now c.args.grammar.now.spelling.now) same c.requires.grammar.have;
      feeds = subst (λ t. AreFeedsOf t c.args.grammar.now.feeds.now) same c.requires.grammar.feeds;
    }

pub returns : goal.returns
returns c =
    let g = c.args.grammar.now in
    subst (λ t. IsLexicalAnswer (signs_of t) (words_said (entries_of (signs_of t)) (lexical_rules_of (signs_of t)) g.lexicon.now g.spelling.now) (lattice_seen (lattice_of c.args.lattice.now)) c.args.most
    (lexical_seen (λ full. view_in t full.graph) c.in_ok-trees.trees)) (c.fulls-fulls.ensures ∙ ap (λ (m : MemoryTree). m.signs) c.requires.grammar.shared) c.in_ok-trees.ensures
