use Rattle.std.proofs.Common.{◌≡◌, ◌∙◌, OnOk, is_some, length, ap, sym, refl, subst, arith, length-append, [], ◌∷◌, ◌++◌}
use lib.ListN.{get_elem?}
use Rattle.shared_chart.specs.TurnSeats.{own_calls}
use Rattle.shared_chart.proofs.Knowing.{knows_of, sole_is, present_same}
use Rattle.shared_chart.proofs.Counts.{calls_bound, nothing_added, one_added}
use Rattle.chart_core.specs.Grammar.{grammar_of}
use Rattle.chart_core.specs.Kept.{IsCore}
use Rattle.chart_model.specs.Tuples.{on_list}
use Rattle.chart_core.specs.Later.{IsLater}
use Rattle.chart_core.specs.Calls.{IsAnswer, Changes}
use Rattle.chart_core.proofs.Later.{tasks_later}
use Rattle.shared_chart.specs.Calls.{call, calls_of}
use Rattle.shared_chart.specs.Seats.{shapes_of, state_of, made_by}
use Rattle.shared_chart.specs.Told.{call_added, caller_by, caller_now}
use Rattle.shared_chart.specs.Times.{ComesAfter}
use Rattle.shared_chart.proofs.Seen.{stands_there, later_there, back_there}
use Rattle.shared_chart.specs.Infos.{AreNewInfos}
use Rattle.shared_chart.proofs.Grown.{calls_grow, entered_later}
use Rattle.shared_chart.proofs.Inform.{made_there}
use Rattle.shared_chart.proofs.shared.SharedChart.enter.Goals as goal

pub enter_tested-entered-requires-clause-core : goal.enter_tested-entered-requires-clause-core
enter_tested-entered-requires-clause-core g c = subst (λ s. IsCore (grammar_of g.S.Shapes g.S.Cover.Cover s) c.enter-chart.result.1.core) (sym c.requires.shapes) (stands_there c.enter-chart.ensures.seat.4 (knows_of c.args.seat.now))

pub enter_tested-entered-requires-clause-right : goal.enter_tested-entered-requires-clause-right
enter_tested-entered-requires-clause-right g c =
    let e = c.enter-chart.ensures.seat in let k = (knows_of c.args.seat.now) in
    c.requires.right c.enter-chart.result.1.core
    (subst (λ s. IsCore (grammar_of g.S.Shapes g.S.Cover.Cover s) c.enter-chart.result.1.core) (sym c.requires.shapes) (stands_there e.4 k))
    (subst (λ s. IsLater (grammar_of g.S.Shapes g.S.Cover.Cover s) (state_of c.args.seat.now) c.enter-chart.result.1.core) (sym c.requires.shapes) (later_there e.4 k).1)

pub enter_tested-entered-requires-clause-verdicts : goal.enter_tested-entered-requires-clause-verdicts
enter_tested-entered-requires-clause-verdicts g c =
    let e = c.enter-chart.ensures.seat in let k = (knows_of c.args.seat.now) in
    c.requires.verdicts c.enter-chart.result.1.core
    (subst (λ s. IsCore (grammar_of g.S.Shapes g.S.Cover.Cover s) c.enter-chart.result.1.core) (sym c.requires.shapes) (stands_there e.4 k))
    (subst (λ s. IsLater (grammar_of g.S.Shapes g.S.Cover.Cover s) (state_of c.args.seat.now) c.enter-chart.result.1.core) (sym c.requires.shapes) (later_there e.4 k).1)

pub enter_tested-entered-requires-clause-made : goal.enter_tested-entered-requires-clause-made
enter_tested-entered-requires-clause-made g c =
    let e = c.enter-chart.ensures.seat in let k = (knows_of c.args.seat.now) in let l = later_there e.4 k in
    let n = tasks_later (grammar_of g.S.Shapes g.S.Cover.Cover (shapes_of c.args.seat.now)) (g.met.S.Shapes.laws (shapes_of c.args.seat.now)) (state_of c.args.seat.now) c.enter-chart.result.1.core l.0 (stands_there e.4 k) l.1 in
    let m = c.requires.made in omega (arith, n, m)

pub overflow_add-seat : goal.overflow_add-seat
overflow_add-seat g c =
    let e = c.enter-chart.ensures.seat in let h = c.args.seat.now in
    let same = e.4.calls 0 (h.number, own_calls h.chair.me.0.claims) (ap (λ l. get_elem? l 0) h.sits.claims) in
    let few = calls_bound _ _ _ _ _ same e.4.room in let n = h.counted in omega arith

pub leave-requires-clause-back : goal.leave-requires-clause-back
leave-requires-clause-back g c =
    let e = c.enter-chart.ensures.seat in let k = (knows_of c.args.seat.now) in let a = c.enter_tested-entered.ensures in
    let gr = grammar_of g.S.Shapes g.S.Cover.Cover c.args.shapes.now in
    let by = caller_by c.args.seat.now.number c.args.seat.now.count in
    let isc = subst (λ s. IsCore (grammar_of g.S.Shapes g.S.Cover.Cover s) c.enter-chart.result.1.core) (sym c.requires.shapes) (stands_there e.4 k) in
    let new = c.enter_tested-entered.new.self in
    let l = entered_later gr c.enter-chart.result.1.core new c.args.found.task.0 c.args.found.outcome by c.enter_tested-entered.result a.change in (
      _,
      _,
      back_there k (ap (λ m. m.0.base) e.2) (ap (λ m. m.0.seen) e.2)
          (subst (λ s. IsCore (grammar_of g.S.Shapes g.S.Cover.Cover s) new) c.requires.shapes a.core)
          (subst (λ s. ComesAfter (grammar_of g.S.Shapes g.S.Cover.Cover s) c.enter-chart.result.1.core new) c.requires.shapes (isc, l)),
      calls_grow gr c.enter-chart.result.1.core new c.args.found.task.0 c.args.found.outcome by c.enter_tested-entered.result a.change ∙ nothing_added c.args.found.task.0 by c.enter_tested-entered.result (calls_of c.enter-chart.result.1.core) _ (c.adds.ensures c.args.found.task.0 by) c.if-adds.false,
    )

pub leave_raised-requires-clause-entry : goal.leave_raised-requires-clause-entry
leave_raised-requires-clause-entry g c =
    let e = c.enter-chart.ensures.seat in let h = c.args.seat.now in let a = c.enter_tested-entered.ensures in
    let gr = grammar_of g.S.Shapes g.S.Cover.Cover c.args.shapes.now in
    let by = caller_by h.number h.count in
    let chart = c.enter-chart.result.1 in let new = c.enter_tested-entered.new.self in
    let isc = subst (λ s. IsCore (grammar_of g.S.Shapes g.S.Cover.Cover s) chart.core) (sym c.requires.shapes) (stands_there e.4 (knows_of h)) in
    let call_is = call c.args.found.task.0 by in
    let more = calls_grow gr chart.core new c.args.found.task.0 c.args.found.outcome by c.enter_tested-entered.result a.change ∙ ap (λ l. calls_of chart.core ++ l) (one_added c.args.found.task.0 by c.enter_tested-entered.result _ (c.adds.ensures c.args.found.task.0 by) c.if-adds.true) in
    let l = entered_later gr chart.core new c.args.found.task.0 c.args.found.outcome by c.enter_tested-entered.result a.change in
    let cs = ap (λ m. m.0.claims) e.2 in (
      _,
      _,
      call_is,
      back_there (knows_of h) (ap (λ m. m.0.base) e.2) (ap (λ m. m.0.seen) e.2)
          (subst (λ s. IsCore (grammar_of g.S.Shapes g.S.Cover.Cover s) new) c.requires.shapes a.core)
          (subst (λ s. ComesAfter (grammar_of g.S.Shapes g.S.Cover.Cover s) chart.core new) c.requires.shapes (isc, l)),
      more,
      cs ∙ h.sits.claims ∙ ap (λ l. (h.number, own_calls l) ∷ []) (sym cs),
    )

pub invariant_of-seat : goal.invariant_of-seat
invariant_of-seat g c =
    let e = c.enter-chart.ensures.seat in let h = c.args.seat.now in let a = c.enter_tested-entered.ensures in
    let gr = grammar_of g.S.Shapes g.S.Cover.Cover c.args.shapes.now in
    let by = caller_by h.number h.count in
    let chart = c.enter-chart.result.1 in let new = c.enter_tested-entered.new.self in
    let isc = subst (λ s. IsCore (grammar_of g.S.Shapes g.S.Cover.Cover s) chart.core) (sym c.requires.shapes) (stands_there e.4 (knows_of h)) in
    let call_is = call c.args.found.task.0 by in
    let more = calls_grow gr chart.core new c.args.found.task.0 c.args.found.outcome by c.enter_tested-entered.result a.change ∙ ap (λ l. calls_of chart.core ++ l) (one_added c.args.found.task.0 by c.enter_tested-entered.result _ (c.adds.ensures c.args.found.task.0 by) c.if-adds.true) in
    let n = c.leave_raised.ensures.seat chart call_is (ap (λ m. m.0.seen) e.2) more in
    let own = ap (λ m. own_calls m.0.claims) n ∙ ap (λ m. own_calls m.0.claims ++ call_is ∷ []) e.2 in record {
      counted = (let k = h.counted in let l = ap (λ x. length x) own in let z = length-append (own_calls h.chair.me.0.claims) (call_is ∷ []) in omega arith);
      sits = record {
        idle = record { turn = ap (λ m. m.0.turn) n; holds = ap (λ m. m.0.holds) n; empty = ap (λ m. m.1) n; numbered = (let q = ap (λ m. length m.0.claims) n in omega arith) };
        makes_none = ap (λ m. m.0.unmade) n ∙ ap (λ m. m.0.unmade) e.2 ∙ h.sits.makes_none;
        claims = ap (λ m. m.0.claims) n ∙ ap (λ l. (h.number, l) ∷ []) (sym (ap (λ m. own_calls m.0.claims) n));
      };
      begun = ap (λ m. is_some m.0.base) n ∙ ap (λ m. is_some m.0.base) e.2 ∙ h.begun;
      single = ap (λ m. length m.0.seen) n;
    }

pub returns-then-adds-clause-enters : goal.returns-then-adds-clause-enters
returns-then-adds-clause-enters g c =
    let e = c.enter-chart.ensures.seat in let h = c.args.seat.now in let a = c.enter_tested-entered.ensures in
    let gr = grammar_of g.S.Shapes g.S.Cover.Cover c.args.shapes.now in
    let by = caller_by h.number h.count in
    let chart = c.enter-chart.result.1 in let new = c.enter_tested-entered.new.self in
    let isc = subst (λ s. IsCore (grammar_of g.S.Shapes g.S.Cover.Cover s) chart.core) (sym c.requires.shapes) (stands_there e.4 (knows_of h)) in
    let call_is = call c.args.found.task.0 by in
    let more = calls_grow gr chart.core new c.args.found.task.0 c.args.found.outcome by c.enter_tested-entered.result a.change ∙ ap (λ l. calls_of chart.core ++ l) (one_added c.args.found.task.0 by c.enter_tested-entered.result _ (c.adds.ensures c.args.found.task.0 by) c.if-adds.true) in
    let n = c.leave_raised.ensures.seat chart call_is (ap (λ m. m.0.seen) e.2) more in
    let own = ap (λ m. own_calls m.0.claims) n ∙ ap (λ m. own_calls m.0.claims ++ call_is ∷ []) e.2 in
    let late = subst (λ s. IsLater (grammar_of g.S.Shapes g.S.Cover.Cover s) (state_of c.args.seat.now) chart.core) (sym c.requires.shapes) (later_there e.4 (knows_of h)).1 in record {
      same = record { id = c.leave_raised.ensures.id.0 ∙ c.enter-chart.ensures.id.0; number = refl; shapes = present_same _ _ _ _ (ap (λ m. m.0.base) n ∙ ap (λ m. m.0.base) e.2) };
      at = chart.core;
      sees = record { core = isc; later = late };
      answer_is = subst (λ k. IsAnswer gr chart.core c.args.found.task.0 c.args.found.outcome (caller_by h.number k) c.enter_tested-entered.result) h.counted a.answer;
      change = subst (λ x. Changes gr chart.core c.args.found.task.0 c.args.found.outcome (caller_now c.args.seat.now) c.enter_tested-entered.result x.core) (sym (sole_is _ _ _ (ap (λ m. m.0.seen) n)))
          (subst (λ k. Changes gr chart.core c.args.found.task.0 c.args.found.outcome (caller_by h.number k) c.enter_tested-entered.result new) h.counted a.change);
      core = subst (λ x. IsCore gr x.core) (sym (sole_is _ _ _ (ap (λ m. m.0.seen) n))) a.core;
      made = own ∙ ap (λ l. made_by c.args.seat.now ++ l) (subst (λ k. call_is ∷ [] ≡ on_list (call_added c.args.found.task.0 (caller_by h.number k) c.enter_tested-entered.result) []) h.counted (sym (one_added c.args.found.task.0 by c.enter_tested-entered.result _ (c.adds.ensures c.args.found.task.0 by) c.if-adds.true)));
      saw = ap (λ m. m.0.saw) n ∙ ap (λ m. m.0.saw) e.2;
      set = ap (λ m. m.0.set) n ∙ ap (λ m. m.0.set) e.2;
    }

pub returns-else-adds-clause-enters : goal.returns-else-adds-clause-enters
returns-else-adds-clause-enters g c =
    let e = c.enter-chart.ensures.seat in let h = c.args.seat.now in let a = c.enter_tested-entered.ensures in
    let gr = grammar_of g.S.Shapes g.S.Cover.Cover c.args.shapes.now in
    let by = caller_by h.number h.count in
    let chart = c.enter-chart.result.1 in let new = c.enter_tested-entered.new.self in
    let isc = subst (λ s. IsCore (grammar_of g.S.Shapes g.S.Cover.Cover s) chart.core) (sym c.requires.shapes) (stands_there e.4 (knows_of h)) in
    let n = c.leave.ensures.seat in
    let own = ap (λ m. own_calls m.0.claims) n ∙ ap (λ m. own_calls m.0.claims) e.2 in
    let late = subst (λ s. IsLater (grammar_of g.S.Shapes g.S.Cover.Cover s) (state_of c.args.seat.now) chart.core) (sym c.requires.shapes) (later_there e.4 (knows_of h)).1 in record {
      same = record { id = c.leave.ensures.id.0 ∙ c.enter-chart.ensures.id.0; number = refl; shapes = present_same _ _ _ _ (ap (λ m. m.0.base) n ∙ ap (λ m. m.0.base) e.2) };
      at = chart.core;
      sees = record { core = isc; later = late };
      answer_is = subst (λ k. IsAnswer gr chart.core c.args.found.task.0 c.args.found.outcome (caller_by h.number k) c.enter_tested-entered.result) h.counted a.answer;
      change = subst (λ x. Changes gr chart.core c.args.found.task.0 c.args.found.outcome (caller_now c.args.seat.now) c.enter_tested-entered.result x.core) (sym (sole_is _ _ _ (ap (λ m. m.0.seen) n)))
          (subst (λ k. Changes gr chart.core c.args.found.task.0 c.args.found.outcome (caller_by h.number k) c.enter_tested-entered.result new) h.counted a.change);
      core = subst (λ x. IsCore gr x.core) (sym (sole_is _ _ _ (ap (λ m. m.0.seen) n))) a.core;
      made = own ∙ sym (nothing_added c.args.found.task.0 (caller_now c.args.seat.now) c.enter_tested-entered.result (made_by c.args.seat.now) _ (c.adds.ensures c.args.found.task.0 (caller_now c.args.seat.now)) c.if-adds.false);
      saw = ap (λ m. m.0.saw) n ∙ ap (λ m. m.0.saw) e.2;
      set = ap (λ m. m.0.set) n ∙ ap (λ m. m.0.set) e.2;
    }

pub inform_new-told-requires : goal.inform_new-told-requires
inform_new-told-requires g c =
    let a = c.enter_tested-entered.ensures in let h = c.args.seat.now in record {
      core = (c.args.shapes.now, a.core);
      made = made_there (grammar_of g.S.Shapes g.S.Cover.Cover c.args.shapes.now) c.enter-chart.result.1.core c.enter_tested-entered.new.self c.args.found.task.0 c.args.found.outcome (caller_by h.number h.count) c.enter_tested-entered.result a.answer a.change;
    }

pub returns-then-adds-clause-infos : goal.returns-then-adds-clause-infos
returns-then-adds-clause-infos g c =
    let e = c.enter-chart.ensures.seat in let h = c.args.seat.now in let a = c.enter_tested-entered.ensures in
    let gr = grammar_of g.S.Shapes g.S.Cover.Cover c.args.shapes.now in
    let by = caller_by h.number h.count in
    let chart = c.enter-chart.result.1 in let new = c.enter_tested-entered.new.self in
    let call_is = call c.args.found.task.0 by in
    let more = calls_grow gr chart.core new c.args.found.task.0 c.args.found.outcome by c.enter_tested-entered.result a.change ∙ ap (λ l. calls_of chart.core ++ l) (one_added c.args.found.task.0 by c.enter_tested-entered.result _ (c.adds.ensures c.args.found.task.0 by) c.if-adds.true) in
    let n = c.leave_raised.ensures.seat chart call_is (ap (λ m. m.0.seen) e.2) more in
    subst (λ x. OnOk c.inform_new-told.result (AreNewInfos g.S.Cover.Cover.extent x.core c.enter_tested-entered.result c.inform_new-told.new.infos.items)) (sym (sole_is _ _ _ (ap (λ m. m.0.seen) n))) c.inform_new-told.ensures

pub returns-else-adds-clause-infos : goal.returns-else-adds-clause-infos
returns-else-adds-clause-infos g c =
    subst (λ x. OnOk c.inform_new-told.result (AreNewInfos g.S.Cover.Cover.extent x.core c.enter_tested-entered.result c.inform_new-told.new.infos.items)) (sym (sole_is _ _ _ (ap (λ m. m.0.seen) c.leave.ensures.seat))) c.inform_new-told.ensures
