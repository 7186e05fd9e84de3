use Rattle.std.proofs.Common.{◌∙◌, ap, sym, refl, subst}
use Rattle.chart_core.specs.Grammar.{grammar_of}
use Rattle.shared_chart.proofs.Knowing.{knows_of, sole_is, present_same}
use Rattle.shared_chart.specs.Seats.{shapes_of, state_of}
use Rattle.shared_chart.specs.Told.{Sees}
use Rattle.shared_chart.specs.Times.{after_itself}
use Rattle.shared_chart.proofs.Seen.{stands_there, later_there, back_there}
use Rattle.shared_chart.proofs.shared.SharedChart.stopped.Goals as goal

pub leave_noting-requires-clause-back : goal.leave_noting-requires-clause-back
leave_noting-requires-clause-back g c =
    let e = c.enter-word.ensures.seat in let k = (knows_of c.args.seat.now) in
    (_, _, back_there k (ap (λ m. m.0.base) e.2) (ap (λ m. m.0.seen) e.2) (stands_there e.4 k) (after_itself _ _ (stands_there e.4 k)), refl)

pub returns-clause-sees : goal.returns-clause-sees
returns-clause-sees g c =
    let e = c.enter-word.ensures.seat in let k = (knows_of c.args.seat.now) in
    subst (λ x. Sees (grammar_of g.S.Shapes g.S.Cover.Cover (shapes_of c.args.seat.now)) (state_of c.args.seat.now) x.core) (sym (sole_is _ _ _ (ap (λ m. m.0.seen) c.leave_noting.ensures.seat))) (record { core = stands_there e.4 k; later = (later_there e.4 k).1 })

pub returns-clause-seat : goal.returns-clause-seat
returns-clause-seat g c =
    let e = c.enter-word.ensures.seat in record { id = c.leave_noting.ensures.id.0 ∙ c.enter-word.ensures.id.0; number = refl; shapes = present_same _ _ _ _ (ap (λ m. m.0.base) c.leave_noting.ensures.seat ∙ ap (λ m. m.0.base) e.2) }
