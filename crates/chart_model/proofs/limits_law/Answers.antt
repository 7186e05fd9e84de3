use Rattle.chart_model.proofs.Whole.{forest_run}
use Rattle.chart_model.proofs.Decided.{below_run, decided_run, answers_are_one}
use Rattle.chart_model.proofs.limits_law.Goals as goal

pub returns-clause-one : goal.returns-clause-one
returns-clause-one g c = answers_are_one (g.S.Shapes.calculus c.args._shapes.now)

pub returns-clause-below : goal.returns-clause-below
returns-clause-below g c = below_run (g.S.Shapes.calculus c.args._shapes.now) (g.met.S.Shapes.laws c.args._shapes.now)

pub returns-clause-decided : goal.returns-clause-decided
returns-clause-decided g c = decided_run (g.S.Shapes.calculus c.args._shapes.now) (g.met.S.Shapes.laws c.args._shapes.now)

pub returns-clause-forests : goal.returns-clause-forests
returns-clause-forests g c = λ limits leaves history run done. forest_run (g.S.Shapes.calculus c.args._shapes.now) limits leaves (g.met.S.Shapes.laws c.args._shapes.now) (g.S.Shapes.full c.args._shapes.now) (g.S.Shapes.agrees c.args._shapes.now) (g.met.S.Shapes.agreement c.args._shapes.now) history run done
