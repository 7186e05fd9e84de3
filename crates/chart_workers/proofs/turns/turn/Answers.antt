use Rattle.std.proofs.Common.{◌∙◌, sym}
use Rattle.chart_core.specs.Grammar.{grammar_of}
use Rattle.shared_chart.specs.Seats.{state_of}
use Rattle.chart_workers.specs.Lending.{goes_then}
use Rattle.chart_workers.proofs.Turning.{reads_on, enters_on, full_on}
use Rattle.chart_workers.proofs.Looking.{cell_hosts, cell_peers}
use Rattle.chart_workers.proofs.turns.turn.Goals as goal

pub find-requires : goal.find-requires
find-requires g c = (state_of c.look.new.seat, c.args.task.0, c.in_ok-look.ensures.look.tells)

pub verdicts-requires-clause-hosts : goal.verdicts-requires-clause-hosts
verdicts-requires-clause-hosts g c =
    let l = c.in_ok-look.ensures.look in
    cell_hosts (grammar_of g.S.Shapes g.S.Cover.Cover c.args.shapes.now) g.S.Cover.Cover.extent (state_of c.look.new.seat) c.args.task.0 c.in_ok-look.look.ready c.in_ok-look.look.cell l.cell

pub enter-requires-clause-shapes : goal.enter-requires-clause-shapes
enter-requires-clause-shapes g c = c.requires.shapes ∙ sym c.look.ensures.seat.same.shapes

pub enter-requires-clause-right : goal.enter-requires-clause-right
enter-requires-clause-right g c = λ x is later. c.in_ok-outcome.ensures.right x c.args.task.0 (c.in_ok-look.ensures.look.stays x is later)

pub enter-requires-clause-verdicts : goal.enter-requires-clause-verdicts
enter-requires-clause-verdicts g c =
    let l = c.in_ok-look.ensures.look in
    c.in_ok-tested.ensures (state_of c.look.new.seat) c.look.ensures.sees.core
    (cell_peers (grammar_of g.S.Shapes g.S.Cover.Cover c.args.shapes.now) g.S.Cover.Cover.extent (state_of c.look.new.seat) c.args.task.0 c.in_ok-look.look.ready c.in_ok-look.look.cell l.cell)

pub returns-clause-seat : goal.returns-clause-seat
returns-clause-seat g c =
    let gr = grammar_of g.S.Shapes g.S.Cover.Cover c.args.shapes.now in let a = c.args.seat.now in let d = c.look.new.seat in let e = c.enter.new.seat in
    goes_then gr a d e (reads_on gr a d c.look.ensures.seat c.look.ensures.sees) (enters_on gr d e c.args.task.0 c.in_ok-outcome.outcome c.enter.result.entered c.enter.ensures.enters)

pub returns-clause-full : goal.returns-clause-full
returns-clause-full g c = full_on (grammar_of g.S.Shapes g.S.Cover.Cover c.args.shapes.now) c.look.new.seat c.enter.new.seat c.args.task.0 c.in_ok-outcome.outcome c.enter.result.entered c.enter.ensures.enters
