use Rattle.chart_core.specs.Grammar.{grammar_of}
use Rattle.chart_core.proofs.Later.{tasks_later}
use Rattle.chart_core.proofs.chart.Core.tasks.Goals as goal

pub returns-clause-grows : goal.returns-clause-grows
returns-clause-grows g c = λ s later was is after. tasks_later (grammar_of g.S.Shapes g.S.Cover.Cover s) (g.met.S.Shapes.laws s) c.args.self.now later was is after
