use Rattle.std.proofs.Common.{◌≡◌, sym, subst, slice_index_or, rules}
use denote.Param.Send.{sendable}
use Rattle.chart_core.specs.Grammar.{grammar_of}
use Rattle.chart_core.specs.Kept.{IsCore}
use Rattle.shared_chart.specs.Seats.{shapes_of, state_of, seat_id, chart_id}
use Rattle.chart_workers.specs.Endings.{EndsAs}
use Rattle.chart_workers.proofs.running.run.Goals as goal

pub for_each_mut-requires-clause-accepts : goal.for_each_mut-requires-clause-accepts
for_each_mut-requires-clause-accepts g c κs within = λ i p lt is. (
  subst (λ x. (seat_id x.seat ≡ chart_id c.args.chart.now) × (c.args.shapes.now ≡ shapes_of x.seat) × IsCore (grammar_of g.S.Shapes g.S.Cover.Cover c.args.shapes.now) (state_of x.seat)) (sym is) (c.requires.ready i p.now lt),
  (search sendable, search sendable, search sendable, search sendable, search rules, search rules, search rules, search rules, search rules, search rules),
)

pub returns-clause-each : goal.returns-clause-each
returns-clause-each g c = λ i d lt.
    let h = c.for_each_mut.ensures i d lt in let gr = grammar_of g.S.Shapes g.S.Cover.Cover c.args.shapes.now in let new = slice_index_or c.for_each_mut.new.s i d in
    subst (λ x. EndsAs gr x.seat new.ended new.seat) h.1.argument_is (subst (λ x. EndsAs gr h.1.argument.now.seat x.ended x.seat) h.1.left h.1.call)
