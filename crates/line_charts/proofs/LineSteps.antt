-- The answer to a line by what a chart over its leaves gives.
use Rattle.std.specs.Prelude.{ℕ, ◌<◌, List, All, length}
use Rattle.std.proofs.lemmas.List.Elements.{All-map}
use Rattle.chart_model.specs.declared.span.Span.{Span}
use Rattle.type_hierarchy.specs.Table.{TypeTable, count_of}
use Rattle.chart_core.specs.declared.Leaf.{Leaf}
use Rattle.chart_core.specs.Leaves.{LeafBelongs}
use Rattle.derivation.specs.Trees.{Derivation}
use Rattle.tree_model.specs.Lexical.{Words}
use Rattle.tree_model.specs.Items.{Limits, LeafTree}
use Rattle.morph_analysis.specs.Lattices.{LatticeTree}
use Rattle.tree_model.specs.Lattices.{Step}
use Rattle.tree_model.specs.Licensed.{parse_item}
use Rattle.book_signs.specs.Trees.{SignTree, signs_of}
use Rattle.grammar_shapes.specs.declared.shapes.GrammarShapes.{GrammarShapes}
use Rattle.grammar_shapes.specs.Shaped.{Shape}
use Rattle.grammar_shapes.specs.Spanned.{span_calculus}
use Rattle.grammar_shapes.specs.Systems.{rules_of, meaning_of, Belongs}
use Rattle.rule_trees.specs.Fulls.{FullTree}
use Rattle.rule_trees.specs.Mothers.{view_in}
use Rattle.lexical_items.specs.declared.lexeme.LexTree.{LexTree}
use Rattle.lexical_items.specs.Listed.{Trees, IsLexicalAnswer}
use Rattle.lexical_items.specs.Seen.{lattice_seen}
use Rattle.grammar_rules.specs.Laws.{LexemesAreLeaves}
use Rattle.grammar_rules.specs.Leafed.{leaf_trees}
use Rattle.grammar_rules.specs.Lined.{AreLined, shapes_in}
use Rattle.grammar_rules.specs.LineLeaves.{lexemes_of}
use Rattle.line_charts.specs.declared.forest.Charted.{Charted}
use Rattle.line_charts.specs.declared.forest.Charted.TheVariants as charted
use Rattle.line_charts.specs.Charts.{ToldClass}
use Rattle.line_charts.specs.Charted.{IsCharted, AreTyped, answer_by}
use Rattle.line_charts.specs.Views.{class_of, IsChartNamed}
use Rattle.line_charts.specs.Unknown.{AreUnknown}
use Rattle.line_charts.specs.Answers.{IsChartAnswer}
use Rattle.line_charts.specs.Inner.Stages.{AreApart}
use Rattle.line_charts.specs.Inner.Hosts.{trees_in}
use Rattle.line_charts.proofs.NamedCharts.{AreAllTyped, chart_named, all_have_names}
use Rattle.line_charts.proofs.Over.{trees_apart}

pub all_typed : (types : TypeTable) (us : List Step) (c : Charted) → AreTyped types c → AreAllTyped types (answer_by us c)
all_typed types us (charted.UnaryChain) h = tt
all_typed types us (charted.Edges) h = tt
all_typed types us (charted.Classes classes) h = All-map (λ (c : ToldClass). c.ty < count_of types) class_of classes.items h

module _ {X W B : Type 0} (t : SignTree) (s : GrammarShapes) (words : Words) (lattice : LatticeTree) (most : ℕ) where
  -- the lexical trees of a line and its leaves
  abbrev pub AreKnown : List (LexTree FullTree) → List (Leaf X Shape Span W B) → Type 0
  AreKnown trees leaves =
      IsLexicalAnswer (signs_of t) words (lattice_seen lattice) most (Trees (lexemes_of t trees)) × AreLined (signs_of t) (meaning_of s) (lexemes_of t trees) leaves × All (LeafBelongs (span_calculus (rules_of s)) (Belongs s)) leaves

  module _ (trees : List (LexTree FullTree)) (leaves : List (Leaf X Shape Span W B)) (known : AreKnown trees leaves) where
    pub known_apart : AreApart (λ (d : Derivation). d) (trees_in trees)
    known_apart = trees_apart (λ full. view_in t full.graph) trees known.0.1.once

    abbrev pub line_leaves : List (LeafTree Span)
    line_leaves = leaf_trees (lexemes_of t trees) (shapes_in (signs_of t) (meaning_of s) leaves)

    module _ (law : LexemesAreLeaves) (types : TypeTable) (feats : List (List ℕ)) (limits : Limits) (us : List Step) (unknown : AreUnknown (signs_of t) words (lattice_seen lattice) most (lattice_seen lattice).steps us) where
      pub chart_answer_by : (c : Charted) → IsCharted (signs_of t) (parse_item (signs_of t) words (lattice_seen lattice) most) limits line_leaves types feats c →
          IsChartAnswer (signs_of t) types feats words (lattice_seen lattice) most limits (answer_by us c)
      chart_answer_by (charted.UnaryChain) h =
          (known.0.0, (line_leaves, law (signs_of t) words (lattice_seen lattice) most (lexemes_of t trees) (shapes_in (signs_of t) (meaning_of s) leaves) known.0.1 known.1.shaped, h))
      chart_answer_by (charted.Edges) h =
          (known.0.0, (line_leaves, law (signs_of t) words (lattice_seen lattice) most (lexemes_of t trees) (shapes_in (signs_of t) (meaning_of s) leaves) known.0.1 known.1.shaped, h))
      chart_answer_by (charted.Classes classes) h =
          (known.0.0, (line_leaves, law (signs_of t) words (lattice_seen lattice) most (lexemes_of t trees) (shapes_in (signs_of t) (meaning_of s) leaves) known.0.1 known.1.shaped, (h.0, unknown, h.1)))

      pub chart_named_by : (c : Charted) → AreTyped types c → IsCharted (signs_of t) (parse_item (signs_of t) words (lattice_seen lattice) most) limits line_leaves types feats c →
          IsChartNamed types (length (signs_of t).instances) (answer_by us c)
      chart_named_by c typed h =
          all_have_names types (length (signs_of t).instances) (answer_by us c) (all_typed types us c typed)
          (chart_named (signs_of t) types feats words (lattice_seen lattice) most limits (answer_by us c) (chart_answer_by c h))
