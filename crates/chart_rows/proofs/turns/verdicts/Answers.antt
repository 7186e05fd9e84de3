use Rattle.chart_core.specs.Grammar.{grammar_of}
use Rattle.shared_chart.specs.Seats.{state_of}
use Rattle.chart_rows.proofs.Found.{found_on, right_since}
use Rattle.chart_rows.proofs.turns.verdicts.Goals as goal

pub returns-clause-found : goal.returns-clause-found
returns-clause-found g c = λ t found. found_on (grammar_of g.S.Shapes g.S.Cover.Cover c.args.shapes.now) (g.met.S.Shapes.laws c.args.shapes.now) c.args.seat.now c.peers.new.seat t c.args.outcome.now found c.peers.ensures.sees

pub returns-clause-right : goal.returns-clause-right
returns-clause-right g c = right_since (grammar_of g.S.Shapes g.S.Cover.Cover c.args.shapes.now) (state_of c.peers.new.seat) c.in-Whole.cover 0 _ c.args.outcome.now _ c.peers.ensures.sees.core c.in_ok-peers.ensures.hosts c.in_ok-test.ensures.right
