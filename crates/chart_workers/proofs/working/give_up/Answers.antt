use Rattle.chart_core.specs.Grammar.{grammar_of}
use Rattle.shared_chart.specs.Seats.{shapes_of}
use Rattle.chart_workers.specs.Lending.{goes_itself}
use Rattle.chart_workers.proofs.Turning.{gives_up}
use Rattle.chart_workers.proofs.working.give_up.Goals as goal

pub returns : goal.returns
returns g c =
    let a = c.args.seat.now in let gr = grammar_of g.S.Shapes g.S.Cover.Cover (shapes_of a) in let s = c.stop.ensures in
    gives_up gr a c.stop.new.seat c.args.ended (goes_itself gr a c.requires.core) c.requires.why (record { same = s.seat; sees = s.sees; saw = s.saw })
