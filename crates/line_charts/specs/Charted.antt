-- What a chart over the leaves of a line gives: the limit that is broken, or the packed classes.
use Rattle.std.specs.Prelude.{ℕ, ◌<◌, All, List, map}
use Rattle.chart_model.specs.declared.span.Span.{Span}
use Rattle.type_hierarchy.specs.Table.{TypeTable, count_of}
use Rattle.chart_model.specs.Limits.{IsLimitAnswer, UnaryChain, Edges, Within}
use Rattle.tree_model.specs.Signs.{Signs}
use Rattle.tree_model.specs.Lattices.{Step}
use Rattle.tree_model.specs.Items.{Item, LeafTree, Limits, calculus, leaves_from, chart_limits}
use Rattle.line_charts.specs.declared.forest.Charted.{Charted}
use Rattle.line_charts.specs.declared.forest.Charted.TheVariants as charted
use Rattle.line_charts.specs.Charts.{IsPackedForest}
use Rattle.line_charts.specs.Answers.{ChartAnswer, ByUnaryChain, ByEdges, Forest}
use Rattle.line_charts.specs.Views.{class_of}

abbrev pub IsCharted : Signs → Item Span → Limits → List (LeafTree Span) → TypeTable → List (List ℕ) → Charted → Type 0
IsCharted g item limits ls types feats (charted.UnaryChain) = (n : ℕ) × IsLimitAnswer (calculus g item) (chart_limits limits) (leaves_from 0 ls) (UnaryChain n)
IsCharted g item limits ls types feats (charted.Edges) = (n : ℕ) × IsLimitAnswer (calculus g item) (chart_limits limits) (leaves_from 0 ls) (Edges n)
IsCharted g item limits ls types feats (charted.Classes classes) =
    IsLimitAnswer (calculus g item) (chart_limits limits) (leaves_from 0 ls) Within × IsPackedForest g item limits ls types feats (map class_of classes.items)

-- the types of the classes are there
abbrev pub AreTyped : TypeTable → Charted → Type 0
AreTyped types (charted.Classes classes) = All (λ c. c.ty.0 < count_of types) classes.items
AreTyped types other = Unit {0}

-- the answer by what a chart gives, with the words that no lexical tree covers
abbrev pub answer_by : List Step → Charted → ChartAnswer
answer_by us (charted.UnaryChain) = ByUnaryChain
answer_by us (charted.Edges) = ByEdges
answer_by us (charted.Classes classes) = Forest us (map class_of classes.items)
