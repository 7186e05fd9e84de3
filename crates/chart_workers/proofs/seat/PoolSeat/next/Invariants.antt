use Rattle.std.proofs.Common.{◌≡◌}
use Rattle.chart_workers.specs.Seats.{hands, places}
use Rattle.chart_workers.specs.Pools.{seat_post}
use Rattle.chart_workers.proofs.seat.PoolSeat.next.Given as goal

abbrev pub invariant-loop : goal.invariant-loop
invariant-loop g l = record {
  places : places l.self ≡ places l.initial.self;
  post : seat_post l.self ≡ seat_post l.initial.self;
  hands : hands l.self ≡ hands l.initial.self;
  fit : g.O.Over.fit l.over;
  later : g.O.Over.later l.initial.over l.over;
}
