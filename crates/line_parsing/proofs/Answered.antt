-- What is asked of the full structures over a line's lexical trees, and what is found over its leaves, by the grammar of its lines.
use Rattle.std.specs.Prelude.{◌≡◌, List, map}
use Rattle.std.proofs.Common.{ℕ, refl, sym, subst}
use Rattle.fs_model.specs.Claims.{IsOrder}
use Rattle.chart_model.specs.declared.span.Span.{Span}
use Rattle.chart_core.specs.declared.Leaf.{Leaf}
use Rattle.chart_core.specs.declared.Limits.{Limits}
use Rattle.chart_core.specs.Leaves.{leaf_seen}
use Rattle.tree_model.specs.Mothers.{Agrees}
use Rattle.tree_model.specs.Laws.{rules_full}
use Rattle.tree_model.specs.Items.{Answer}
use Rattle.morph_analysis.specs.Lattices.{LatticeTree}
use Rattle.packed_items.specs.Packed.{Fit, IsFound}
use Rattle.packed_items.specs.Answers.{answer_of}
use Rattle.packed_items.specs.declared.Found.{Found}
use Rattle.book_signs.specs.Trees.{SignTree, signs_of}
use Rattle.grammar_shapes.specs.Shaped.{Shape}
use Rattle.grammar_shapes.specs.Spanned.{span_calculus}
use Rattle.grammar_shapes.specs.Systems.{rules_of, meaning_of}
use Rattle.rule_trees.specs.Fulls.{FullTree}
use Rattle.rule_trees.specs.Mothers.{view_in}
use Rattle.rule_trees.specs.Wholes.{wholes_of, IsLexicalAt, IsRuled}
use Rattle.lexical_items.specs.declared.lexeme.LexTree.{LexTree}
use Rattle.lexical_items.specs.Listed.{Trees, IsLexicalAnswer}
use Rattle.lexical_items.specs.Seen.{lattice_seen}
use Rattle.lexical_items.specs.Views.{lexeme_seen}
use Rattle.grammar_rules.specs.Lined.{AreLined}
use Rattle.grammar_rules.specs.LineLeaves.{lexemes_of}
use Rattle.grammar_rules.specs.Lines.{IsLineGrammar, IsLineAnswer, words_by}
use Rattle.grammar_rules.specs.declared.grammar.LineGrammar.{LineGrammar}
use Rattle.grammar_rules.proofs.Calls.{call_fit, call_answer}

-- The lexical trees are given as a list, and once more as a slice of it.
module _ {X W B : Type 0} (g : LineGrammar) (is : IsLineGrammar g) (o : IsOrder (signs_of g.signs.now).system) (lattice : LatticeTree) (limits : Limits) (trees slice : List (LexTree FullTree)) (same : slice ≡ trees) (leaves : List (Leaf X Shape Span W B))
    (known : IsLexicalAnswer (signs_of g.signs.now) (words_by g) (lattice_seen lattice) limits.lexical (Trees (lexemes_of g.signs.now trees)))
    (lined : AreLined (signs_of g.signs.now) (meaning_of g.shapes.now) (lexemes_of g.signs.now trees) leaves) where
  known_slice : IsLexicalAnswer (signs_of g.signs.now) (words_by g) (lattice_seen lattice) limits.lexical (Trees (lexemes_of g.signs.now slice))
  known_slice = subst (λ ts. IsLexicalAnswer (signs_of g.signs.now) (words_by g) (lattice_seen lattice) limits.lexical (Trees (lexemes_of g.signs.now ts))) (sym same) known

  lined_slice : AreLined (signs_of g.signs.now) (meaning_of g.shapes.now) (lexemes_of g.signs.now slice) leaves
  lined_slice = subst (λ ts. AreLined (signs_of g.signs.now) (meaning_of g.shapes.now) (lexemes_of g.signs.now ts) leaves) (sym same) lined

  pub line_fits : Fit (span_calculus (rules_of g.shapes.now)) (rules_full (rules_of g.shapes.now)) (Agrees (rules_of g.shapes.now)) (wholes_of (signs_of g.signs.now) (lexemes_of g.signs.now slice) lattice.end) (IsLexicalAt (signs_of g.signs.now) (lexemes_of g.signs.now slice)) (IsRuled (signs_of g.signs.now)) (map (leaf_seen (meaning_of g.shapes.now)) leaves)
  line_fits = call_fit g.signs.now g.shapes.now is.shapes (meaning_of g.shapes.now) (words_by g) (lattice_seen lattice) limits o (lexeme_seen (λ full. view_in g.signs.now full.graph)) slice leaves known_slice lined_slice lattice.end refl

  pub line_answers : (found : Found) (a : Answer) → IsFound (span_calculus (rules_of g.shapes.now)) (rules_full (rules_of g.shapes.now)) (Agrees (rules_of g.shapes.now)) (wholes_of (signs_of g.signs.now) (lexemes_of g.signs.now slice) lattice.end) limits (map (leaf_seen (meaning_of g.shapes.now)) leaves) found → a ≡ answer_of found → IsLineAnswer g lattice limits a
  line_answers = call_answer g.signs.now g.shapes.now is.shapes (meaning_of g.shapes.now) (words_by g) (lattice_seen lattice) limits o (lexeme_seen (λ full. view_in g.signs.now full.graph)) slice leaves known_slice lined_slice lattice.end refl

  -- the same, of full structures over these trees
  module _ (signs : SignTree) (ls : List (LexTree FullTree)) (end : ℕ) (signs_are : signs ≡ g.signs.now) (leaves_are : ls ≡ slice) (end_is : end ≡ lattice.end) where
    pub fits_over : Fit (span_calculus (rules_of g.shapes.now)) (rules_full (rules_of g.shapes.now)) (Agrees (rules_of g.shapes.now)) (wholes_of (signs_of signs) (lexemes_of signs ls) end) (IsLexicalAt (signs_of signs) (lexemes_of signs ls)) (IsRuled (signs_of signs)) (map (leaf_seen (meaning_of g.shapes.now)) leaves)
    fits_over =
        subst (λ s. Fit (span_calculus (rules_of g.shapes.now)) (rules_full (rules_of g.shapes.now)) (Agrees (rules_of g.shapes.now)) (wholes_of (signs_of s) (lexemes_of s ls) end) (IsLexicalAt (signs_of s) (lexemes_of s ls)) (IsRuled (signs_of s)) (map (leaf_seen (meaning_of g.shapes.now)) leaves)) (sym signs_are)
        (subst (λ l. Fit (span_calculus (rules_of g.shapes.now)) (rules_full (rules_of g.shapes.now)) (Agrees (rules_of g.shapes.now)) (wholes_of (signs_of g.signs.now) (lexemes_of g.signs.now l) end) (IsLexicalAt (signs_of g.signs.now) (lexemes_of g.signs.now l)) (IsRuled (signs_of g.signs.now)) (map (leaf_seen (meaning_of g.shapes.now)) leaves)) (sym leaves_are)
        (subst (λ e. Fit (span_calculus (rules_of g.shapes.now)) (rules_full (rules_of g.shapes.now)) (Agrees (rules_of g.shapes.now)) (wholes_of (signs_of g.signs.now) (lexemes_of g.signs.now slice) e) (IsLexicalAt (signs_of g.signs.now) (lexemes_of g.signs.now slice)) (IsRuled (signs_of g.signs.now)) (map (leaf_seen (meaning_of g.shapes.now)) leaves)) (sym end_is) line_fits))

    pub answers_over : (found : Found) (a : Answer) → IsFound (span_calculus (rules_of g.shapes.now)) (rules_full (rules_of g.shapes.now)) (Agrees (rules_of g.shapes.now)) (wholes_of (signs_of signs) (lexemes_of signs ls) end) limits (map (leaf_seen (meaning_of g.shapes.now)) leaves) found → a ≡ answer_of found → IsLineAnswer g lattice limits a
    answers_over found a is_found same_answer =
        line_answers found a
        (subst (λ e. IsFound (span_calculus (rules_of g.shapes.now)) (rules_full (rules_of g.shapes.now)) (Agrees (rules_of g.shapes.now)) (wholes_of (signs_of g.signs.now) (lexemes_of g.signs.now slice) e) limits (map (leaf_seen (meaning_of g.shapes.now)) leaves) found) end_is
        (subst (λ l. IsFound (span_calculus (rules_of g.shapes.now)) (rules_full (rules_of g.shapes.now)) (Agrees (rules_of g.shapes.now)) (wholes_of (signs_of g.signs.now) (lexemes_of g.signs.now l) end) limits (map (leaf_seen (meaning_of g.shapes.now)) leaves) found) leaves_are
        (subst (λ s. IsFound (span_calculus (rules_of g.shapes.now)) (rules_full (rules_of g.shapes.now)) (Agrees (rules_of g.shapes.now)) (wholes_of (signs_of s) (lexemes_of s ls) end) limits (map (leaf_seen (meaning_of g.shapes.now)) leaves) found) signs_are is_found)))
        same_answer
