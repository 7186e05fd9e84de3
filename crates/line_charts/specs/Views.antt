-- What contracts see of told classes and of answers.
use Rattle.std.specs.Prelude.{ℕ, ◌<◌, All, map}
use Rattle.derivation.specs.Views.{derivation_of}
use Rattle.derivation.specs.Text.{IsNamed}
use Rattle.type_hierarchy.specs.Table.{TypeTable, count_of}
use Rattle.morph_analysis.specs.LatticeViews.{step_of}
use Rattle.lexical_items.specs.Seen.{step_seen}
use Rattle.line_charts.specs.declared.Maker as declared_maker
use Rattle.line_charts.specs.declared.Maker.TheVariants as makers
use Rattle.line_charts.specs.declared.ToldClass as declared_class
use Rattle.line_charts.specs.declared.ChartAnswer as declared_answer
use Rattle.line_charts.specs.declared.ChartAnswer.TheVariants as answers
use Rattle.line_charts.specs.Charts.{Maker, by_tree, by_rule, ToldClass}
use Rattle.line_charts.specs.Answers.{ChartAnswer, LexicalDepth, ByUnaryChain, ByEdges, Forest}

abbrev pub maker_of : declared_maker.Maker → Maker
maker_of (makers.Tree tree) = by_tree (derivation_of tree)
maker_of (makers.Rule place classes) = by_rule place classes.items

abbrev pub class_of : declared_class.ToldClass → ToldClass
class_of c = record { from = c.from; to = c.to; ty = c.ty.0; rooted = c.rooted; makers = map maker_of c.makers.items }

abbrev pub chart_answer : declared_answer.ChartAnswer → ChartAnswer
chart_answer (answers.LexicalDepth) = LexicalDepth
chart_answer (answers.UnaryChain) = ByUnaryChain
chart_answer (answers.Edges) = ByEdges
chart_answer (answers.Forest unknown classes) = Forest (map (λ s. step_seen (step_of s)) unknown.items) (map class_of classes.items)

-- the trees and rules of a class have names, of which there are so many, and its type has one
abbrev pub IsMakerNamed : ℕ → Maker → Type 0
IsMakerNamed count (by_tree t) = IsNamed count t
IsMakerNamed count (by_rule place ns) = place < count

pub record IsClassNamed (types : TypeTable) (count : ℕ) (c : ToldClass) : Type 0 where
  pub typed : c.ty < count_of types
  pub makers : All (IsMakerNamed count) c.makers

abbrev pub IsChartNamed : TypeTable → ℕ → ChartAnswer → Type 0
IsChartNamed types count (Forest unknown classes) = All (IsClassNamed types count) classes
IsChartNamed types count other = Unit {0}
