use Rattle.chart_model.proofs.Whole.{complete_chart, complete_forest}
use Rattle.chart_model.proofs.chart_law.Goals as goal

pub returns-clause-charts : goal.returns-clause-charts
returns-clause-charts g c = λ limits leaves history legal done. complete_chart (g.S.Shapes.calculus c.args._shapes.now) limits leaves (g.met.S.Shapes.laws c.args._shapes.now) history legal done

pub returns-clause-forests : goal.returns-clause-forests
returns-clause-forests g c = λ limits leaves history legal done. complete_forest (g.S.Shapes.calculus c.args._shapes.now) limits leaves (g.met.S.Shapes.laws c.args._shapes.now) (g.S.Shapes.full c.args._shapes.now) (g.S.Shapes.agrees c.args._shapes.now) (g.met.S.Shapes.agreement c.args._shapes.now) history legal done
