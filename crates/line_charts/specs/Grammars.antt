-- What the packed forests of a grammar are told by.
use Rattle.std.specs.Prelude.{◌≡◌, length}
use Rattle.grammar_rules.specs.Lines.{AreShapesOf}
use Rattle.line_charts.specs.declared.grammar.ChartGrammar.{ChartGrammar}

-- the shapes are those of the phrase rules of its signs, and each feature has a name
pub record IsChartGrammar (g : ChartGrammar) : Type 0 where
  pub shapes : AreShapesOf g.signs.now g.shapes.now
  pub feats : length g.feats.now ≡ length g.signs.now.book.system.introducers
