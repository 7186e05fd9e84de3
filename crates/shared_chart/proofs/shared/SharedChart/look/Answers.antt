use Rattle.std.proofs.Common.{◌∙◌, IfOk, IfErr, ap, sym, refl, subst}
use Rattle.chart_core.specs.Grammar.{grammar_of}
use Rattle.chart_core.specs.Kept.{IsCore}
use Rattle.shared_chart.specs.TurnSeats.{own_calls}
use Rattle.shared_chart.proofs.Knowing.{knows_of, sole_is, present_same}
use Rattle.shared_chart.specs.Seats.{state_of}
use Rattle.shared_chart.specs.Told.{Sees, IsUnready}
use Rattle.shared_chart.specs.Looks.{IsLook}
use Rattle.shared_chart.specs.Times.{after_itself}
use Rattle.shared_chart.proofs.Seen.{stands_there, later_there, back_there}
use Rattle.shared_chart.proofs.shared.SharedChart.look.Goals as goal

pub leave-requires-clause-back : goal.leave-requires-clause-back
leave-requires-clause-back g c =
    let e = c.enter-chart.ensures.seat in let k = (knows_of c.args.seat.now) in
    (_, _, back_there k (ap (λ m. m.0.base) e.2) (ap (λ m. m.0.seen) e.2) (stands_there e.4 k) (after_itself _ _ (stands_there e.4 k)), refl)

pub looked-look-requires : goal.looked-look-requires
looked-look-requires g c = record { core = subst (λ s. IsCore (grammar_of g.S.Shapes g.S.Cover.Cover s) c.enter-chart.result.1.core) (sym c.requires.shapes) (stands_there c.enter-chart.ensures.seat.4 (knows_of c.args.seat.now)) }

pub returns-clause-sees : goal.returns-clause-sees
returns-clause-sees g c =
    let e = c.enter-chart.ensures.seat in let k = (knows_of c.args.seat.now) in
    subst (λ x. Sees (grammar_of g.S.Shapes g.S.Cover.Cover c.args.shapes.now) (state_of c.args.seat.now) x.core) (sym (sole_is _ _ _ (ap (λ m. m.0.seen) c.leave.ensures.seat)))
    (subst (λ s. Sees (grammar_of g.S.Shapes g.S.Cover.Cover s) (state_of c.args.seat.now) c.enter-chart.result.1.core) (sym c.requires.shapes) (record { core = stands_there e.4 k; later = (later_there e.4 k).1 }))

pub returns-clause-unready : goal.returns-clause-unready
returns-clause-unready g c =
    subst (λ x. IfErr c.looked-look.result (IsUnready (grammar_of g.S.Shapes g.S.Cover.Cover c.args.shapes.now) x.core c.args.task.0)) (sym (sole_is _ _ _ (ap (λ m. m.0.seen) c.leave.ensures.seat))) c.looked-look.ensures.unready

pub returns-clause-seat : goal.returns-clause-seat
returns-clause-seat g c =
    let e = c.enter-chart.ensures.seat in let n = c.leave.ensures.seat in record {
      same = record { id = c.leave.ensures.id.0 ∙ c.enter-chart.ensures.id.0; number = refl; shapes = present_same _ _ _ _ (ap (λ m. m.0.base) n ∙ ap (λ m. m.0.base) e.2) };
      made = ap (λ m. own_calls m.0.claims) n ∙ ap (λ m. own_calls m.0.claims) e.2;
      saw = ap (λ m. m.0.saw) n ∙ ap (λ m. m.0.saw) e.2;
      set = ap (λ m. m.0.set) n ∙ ap (λ m. m.0.set) e.2;
    }

pub returns-clause-look : goal.returns-clause-look
returns-clause-look g c =
    subst (λ x. IfOk c.looked-look.result (IsLook (grammar_of g.S.Shapes g.S.Cover.Cover c.args.shapes.now) g.S.Cover.Cover.extent x.core c.args.task.0)) (sym (sole_is _ _ _ (ap (λ m. m.0.seen) c.leave.ensures.seat))) c.looked-look.ensures.look
