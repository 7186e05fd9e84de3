use Rattle.std.proofs.Common.{◌∙◌, IfOk, IfErr, ap, sym, refl, subst}
use Rattle.chart_core.specs.Grammar.{grammar_of}
use Rattle.shared_chart.specs.TurnSeats.{own_calls}
use Rattle.shared_chart.proofs.Knowing.{knows_of, sole_is, present_same}
use Rattle.shared_chart.specs.Seats.{shapes_of, state_of}
use Rattle.shared_chart.specs.Told.{Sees}
use Rattle.shared_chart.specs.Infos.{AreInfos, AreUnready}
use Rattle.shared_chart.specs.Times.{after_itself}
use Rattle.shared_chart.proofs.Seen.{stands_there, later_there, back_there}
use Rattle.shared_chart.proofs.shared.SharedChart.infos.Goals as goal

pub leave-requires-clause-back : goal.leave-requires-clause-back
leave-requires-clause-back g c =
    let e = c.enter-chart.ensures.seat in let k = (knows_of c.args.seat.now) in
    (_, _, back_there k (ap (λ m. m.0.base) e.2) (ap (λ m. m.0.seen) e.2) (stands_there e.4 k) (after_itself _ _ (stands_there e.4 k)), refl)

pub inform_all-told-requires-clause-core : goal.inform_all-told-requires-clause-core
inform_all-told-requires-clause-core g c = (_, stands_there c.enter-chart.ensures.seat.4 (knows_of c.args.seat.now))

pub returns-clause-sees : goal.returns-clause-sees
returns-clause-sees g c =
    let e = c.enter-chart.ensures.seat in let k = (knows_of c.args.seat.now) in
    subst (λ x. Sees (grammar_of g.S.Shapes g.S.Cover.Cover (shapes_of c.args.seat.now)) (state_of c.args.seat.now) x.core) (sym (sole_is _ _ _ (ap (λ m. m.0.seen) c.leave.ensures.seat))) (record { core = stands_there e.4 k; later = (later_there e.4 k).1 })

pub returns-clause-infos : goal.returns-clause-infos
returns-clause-infos g c =
    subst (λ x. IfOk c.inform_all-told.result (λ v. AreInfos g.S.Cover.Cover.extent x.core c.args.first.0 c.args.end.0 v.items)) (sym (sole_is _ _ _ (ap (λ m. m.0.seen) c.leave.ensures.seat))) c.inform_all-told.ensures.infos

pub returns-clause-unready : goal.returns-clause-unready
returns-clause-unready g c =
    subst (λ x. IfErr c.inform_all-told.result (AreUnready x.core c.args.end.0)) (sym (sole_is _ _ _ (ap (λ m. m.0.seen) c.leave.ensures.seat))) c.inform_all-told.ensures.unready

pub returns-clause-seat : goal.returns-clause-seat
returns-clause-seat g c =
    let e = c.enter-chart.ensures.seat in let n = c.leave.ensures.seat in record {
      same = record { id = c.leave.ensures.id.0 ∙ c.enter-chart.ensures.id.0; number = refl; shapes = present_same _ _ _ _ (ap (λ m. m.0.base) n ∙ ap (λ m. m.0.base) e.2) };
      made = ap (λ m. own_calls m.0.claims) n ∙ ap (λ m. own_calls m.0.claims) e.2;
      saw = ap (λ m. m.0.saw) n ∙ ap (λ m. m.0.saw) e.2;
      set = ap (λ m. m.0.set) n ∙ ap (λ m. m.0.set) e.2;
    }
