-- The answer to a lattice whose packed forest is asked for.
use Rattle.std.specs.Prelude.{ℕ, List}
use Rattle.chart_model.specs.declared.span.Span.{Span}
use Rattle.type_hierarchy.specs.Table.{TypeTable}
use Rattle.chart_model.specs.Limits.{IsLimitAnswer, UnaryChain, Edges, Within}
use Rattle.tree_model.specs.Signs.{Signs}
use Rattle.tree_model.specs.Lexical.{Words}
use Rattle.tree_model.specs.Items.{LeafTree, AreLeaves, Limits, calculus, leaves_from, chart_limits}
use Rattle.tree_model.specs.Lattices.{Lattice, Step}
use Rattle.tree_model.specs.Licensed.{IsTooDeep, parse_item}
use Rattle.line_charts.specs.Charts.{ToldClass, IsPackedForest}
use Rattle.line_charts.specs.Unknown.{AreUnknown}

-- the limit that is broken, or the words that no lexical tree covers, and the packed classes
pub data ChartAnswer : Type 0 where
  LexicalDepth : ChartAnswer
  ByUnaryChain : ChartAnswer
  ByEdges : ChartAnswer
  Forest : (unknown : List Step) (classes : List ToldClass) → ChartAnswer

-- `most` is the greatest number of rules of a lexical tree; `types` and `feats` are the names in which structures are written
module _ (g : Signs) (types : TypeTable) (feats : List (List ℕ)) (words : Words) (lattice : Lattice) (most : ℕ) (limits : Limits) where
  -- by the leaves, where no lexical tree is too deep
  abbrev pub IsChartBy : List (LeafTree Span) → ChartAnswer → Type 0
  IsChartBy ls LexicalDepth = ⊥
  IsChartBy ls ByUnaryChain = (n : ℕ) × IsLimitAnswer (calculus g (parse_item g words lattice most)) (chart_limits limits) (leaves_from 0 ls) (UnaryChain n)
  IsChartBy ls ByEdges = (n : ℕ) × IsLimitAnswer (calculus g (parse_item g words lattice most)) (chart_limits limits) (leaves_from 0 ls) (Edges n)
  IsChartBy ls (Forest unknown classes) =
      IsLimitAnswer (calculus g (parse_item g words lattice most)) (chart_limits limits) (leaves_from 0 ls) Within
      × AreUnknown g words lattice most lattice.steps unknown
      × IsPackedForest g (parse_item g words lattice most) limits ls types feats classes

  -- As for trees: a lexical tree is too deep; a limit on chains or classes is broken, at the least size; or this is the packed forest.
  abbrev pub IsChartAnswer : ChartAnswer → Type 0
  IsChartAnswer LexicalDepth = IsTooDeep g words lattice most
  IsChartAnswer a = (IsTooDeep g words lattice most → ⊥) × ((ls : List (LeafTree Span)) × AreLeaves g (parse_item g words lattice most) ls × IsChartBy ls a)
