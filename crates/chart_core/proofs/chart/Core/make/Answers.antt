use Rattle.std.proofs.Common.{refl, arith}
use Rattle.chart_model.specs.Chart as model
use Rattle.chart_model.specs.At.{from_get}
use Rattle.chart_core.specs.Grammar.{grammar_of}
use Rattle.chart_core.specs.CoreView.{chart_of}
use Rattle.chart_core.specs.Passing.{was_done}
use Rattle.chart_core.proofs.chart.Core.make.Goals as goal

pub returns-in-Done : goal.returns-in-Done
returns-in-Done g c =
    let G = grammar_of g.S.Shapes g.S.Cover.Cover c.args.shapes.now in
    record { core = c.requires.core; over = record { limits_same = refl; leaves_same = refl; more = omega arith }; settled = (model.Fails, was_done _ (from_get (chart_of G.meaning c.args.self.now).done c.args.task.0 _ c.in-Done.ensures) refl) }
