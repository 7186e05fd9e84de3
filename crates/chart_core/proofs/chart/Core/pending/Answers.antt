use Rattle.chart_core.specs.Grammar.{grammar_of}
use Rattle.chart_core.proofs.Later.{pending_later}
use Rattle.chart_core.proofs.chart.Core.pending.Goals as goal

pub returns-clause-over : goal.returns-clause-over
returns-clause-over g c = λ s later was is after none. pending_later (grammar_of g.S.Shapes g.S.Cover.Cover s) (g.met.S.Shapes.laws s) c.args.self.now later was is after none
