use Rattle.chart_core.specs.Grammar.{grammar_of}
use Rattle.shared_chart.specs.Seats.{shapes_of}
use Rattle.chart_workers.proofs.Turning.{over_stays}
use Rattle.chart_workers.proofs.over.ChartOverOver.over.Goals as goal

pub returns-clause-stays : goal.returns-clause-stays
returns-clause-stays g c =
    let a = c.args.self.now.seat.now in
    over_stays (grammar_of g.S.Shapes g.S.Cover.Cover (shapes_of a)) (g.met.S.Shapes.laws (shapes_of a)) a c.look.new.seat c.requires.1 c.look.ensures.seat
