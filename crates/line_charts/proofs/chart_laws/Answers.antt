use Rattle.line_charts.proofs.Answered.{chart_answers_are_one, charts_match_parses}
use Rattle.line_charts.proofs.OneForest.{unknown_one}
use Rattle.line_charts.proofs.chart_laws.Goals as goal

pub returns : goal.returns
returns c = record { one = chart_answers_are_one; parses = charts_match_parses; unknown = λ g words lattice most steps us vs x y. unknown_one x y }
