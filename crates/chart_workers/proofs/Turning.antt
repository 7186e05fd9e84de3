-- One turn after another.
use Rattle.std.proofs.Common.{◌≡◌, ◌≢◌, ◌∙◌, ℕ, List, [], ◌||◌, ◌==◌, Bool, true, false, true≢false, refl, sym, subst, arith}
use Rattle.std.proofs.lemmas.Bool.{eqb-true, eq-eqb}
use Rattle.chart_model.specs.Calculus.{Laws}
use Rattle.chart_core.specs.declared.chart.Core.{Core}
use Rattle.chart_core.specs.declared.Entered.{Entered}
use Rattle.chart_core.specs.declared.Entered.TheVariants as entered
use Rattle.chart_core.specs.declared.Outcome.{Outcome}
use Rattle.chart_core.specs.declared.Peer.{Peer}
use Rattle.chart_core.specs.declared.Verdict.{Verdict}
use Rattle.chart_core.specs.Grammar.{Grammar}
use Rattle.chart_core.specs.Kept.{IsCore, pending_of}
use Rattle.chart_core.specs.Later.{AreLasting, later_after}
use Rattle.chart_core.specs.Calls.{ArePeers, AreRightVerdicts, IsAnswer}
use Rattle.chart_core.specs.CoreView.{chart_of, limits_of, caller_of}
use Rattle.chart_core.specs.declared.Outcome.TheVariants as outcomes
use Rattle.chart_core.specs.Outcomes.{outcome_seen}
use Rattle.chart_core.specs.Steps.{Answers}
use Rattle.chart_core.proofs.Later.{tasks_later, pending_later}
use Rattle.shared_chart.specs.Seats.{ChartSeat, Reads, state_of, saw_mark}
use Rattle.shared_chart.specs.Told.{Sees, Enters, AreRightSince, caller_now}
use Rattle.shared_chart.proofs.Grown.{entered_later}
use Rattle.chart_workers.specs.declared.ended.Ended.{Ended}
use Rattle.chart_workers.specs.declared.ended.Ended.TheVariants as ended
use Rattle.chart_workers.specs.Turns.{GoesOn, IsFound}
use Rattle.chart_workers.specs.Lending.{goes_then}
use Rattle.chart_workers.specs.Endings.{is_over, EntersOn, Stops, GivesUp, EndsAs}

or_right : (a b : Bool) → (a || b) ≡ true → (b ≡ true → ⊥) → a ≡ true
or_right true b e never = refl
or_right false b e never = absurd (never e)

or_first : (a b : Bool) → a ≡ true → (a || b) ≡ true
or_first true b e = refl
or_first false b e = absurd (true≢false (sym e))

or_second : (a b : Bool) → b ≡ true → (a || b) ≡ true
or_second true b e = refl
or_second false b e = e

or_on : (a b d e : Bool) → (a || b) ≡ true → (a ≡ true → d ≡ true) → (b ≡ true → e ≡ true) → (d || e) ≡ true
or_on true b d e h f k = or_first d e (f refl)
or_on false b d e h f k = or_second d e (k h)

module _ {X T C W B M : Type 0} (g : Grammar T M C) where
  pub reads_on : (a b : ChartSeat X T C W B) → Reads a b → Sees g (state_of a) (state_of b) → GoesOn g a b
  reads_on a b r s = record { same = r.same; sees = s; saw = λ e. r.saw ∙ e; set = r.set }

  pub enters_on : (a b : ChartSeat X T C W B) (t : ℕ) (o : Outcome X T C W B) (answer : Entered) → Enters g a t o answer b → GoesOn g a b
  enters_on a b t o answer e = record {
    same = e.same;
    sees = record { core = e.core; later = later_after g (state_of a) e.at (state_of b) e.sees.later (entered_later g e.at (state_of b) t o _ answer e.change) };
    saw = λ s. e.saw ∙ s;
    set = e.set;
  }

  same_answer : (x y : Core X T C W B) (t : ℕ) (o : Outcome X T C W B) (by : _) (made : ℕ) → limits_of x ≡ limits_of y → chart_of g.meaning x ≡ chart_of g.meaning y → IsAnswer g x t o by (entered.Full made) → IsAnswer g y t o by (entered.Full made)
  same_answer x y t o by made l c a = subst (λ (z : _ × _). Answers g.calculus z.0 z.1 t true (outcome_seen g.meaning o) (caller_of by) (entered.Full made)) (λ i. (l i, c i)) a

  -- where there is no room, nothing was changed
  pub full_on : (a b : ChartSeat X T C W B) (t : ℕ) (o : Outcome X T C W B) (answer : Entered) → Enters g a t o answer b → EntersOn g b answer
  full_on a b t o (entered.Stale place) e = tt
  full_on a b t o (entered.Skipped place row) e = tt
  full_on a b t o (entered.Noted place) e = tt
  full_on a b t o (entered.Full made) e = (t, o, caller_now a, same_answer e.at (state_of b) t o (caller_now a) made (sym e.change.limits) (sym e.change.chart) e.answer_is)
  full_on a b t o (entered.Placed place row first end) e = tt
  full_on a b t o (entered.NoMemory) e = tt

  -- what was found stays right
  pub found_on : Laws g.calculus → (a b : ChartSeat X T C W B) (t : ℕ) (o : Outcome X T C W B) → IsFound g a t o → Sees g (state_of a) (state_of b) → IsFound g b t o
  found_on laws a b t o f s = record {
    core = s.core;
    made = (let n = tasks_later g laws (state_of a) (state_of b) f.core s.core s.later in let m = f.made in omega (arith, n, m));
    right = λ c is later. f.right c is (later_after g (state_of a) (state_of b) c s.later later);
    belongs = f.belongs;
  }

  pub right_since : (s : Core X T C W B) (cover : C) (level : ℕ) (hosts : List (Peer X T C W B)) (o : Outcome X T C W B) (verdicts : List Verdict) → IsCore g s → ArePeers g s cover level hosts → AreLasting g hosts o verdicts → AreRightSince g s o verdicts
  right_since s cover level hosts o verdicts is peers lasting = λ c core later. lasting s c cover level is core later peers

  no_verdict : (core : Core X T C W B) (o : Outcome X T C W B) → AreRightVerdicts g core o []
  no_verdict core (outcomes.Fails) = tt
  no_verdict core (outcomes.Fits cover) = tt
  no_verdict core (outcomes.Whole cover shape) = λ i v row at there. elim at [ ]

  pub no_verdicts : (s : Core X T C W B) (o : Outcome X T C W B) (verdicts : List Verdict) → verdicts ≡ [] → AreRightSince g s o verdicts
  no_verdicts s o verdicts none = λ c core later. subst (AreRightVerdicts g c o) (sym none) (no_verdict c o)

  -- how a worker ends that had gone on before
  pub ends_after : (a b c : ChartSeat X T C W B) (e : Ended) → GoesOn g a b → EndsAs g b e c → EndsAs g a e c
  ends_after a b c (ended.AllDone) p h = (goes_then g a b c p h.0, h.1)
  ends_after a b c (ended.Stopped) p h = (goes_then g a b c p h.0, h.1)
  ends_after a b c (ended.Full made) p h = (h.0, goes_then g a b h.0 p h.1, h.2, h.3)
  ends_after a b c (ended.NoMemory) p h = (h.0, goes_then g a b h.0 p h.1, h.2)

  pub gives_up : (a b : ChartSeat X T C W B) (e : Ended) → GoesOn g a a → GivesUp g a e → Stops g a b → EndsAs g a e b
  gives_up a b (ended.AllDone) goes why stops = elim why [ ]
  gives_up a b (ended.Stopped) goes why stops = elim why [ ]
  gives_up a b (ended.Full made) goes why stops = (a, goes, why, stops)
  gives_up a b (ended.NoMemory) goes why stops = (a, goes, stops)

  -- where something is pending, the mark was seen
  pub mark_seen : Laws g.calculus → (a b : ChartSeat X T C W B) → IsCore g (state_of a) → Sees g (state_of a) (state_of b) → is_over a ≡ true → pending_of (state_of b) ≢ 0 → saw_mark a ≡ true
  mark_seen laws a b is sees over left = or_right (saw_mark a) (pending_of (state_of a) == 0) over (λ none. left (pending_later g laws (state_of a) (state_of b) is sees.core sees.later (eqb-true (pending_of (state_of a)) 0 none)))

  -- once over, it stays so
  pub over_stays : Laws g.calculus → (a b : ChartSeat X T C W B) → IsCore g (state_of a) → GoesOn g a b → is_over a ≡ true → is_over b ≡ true
  over_stays laws a b is goes over = or_on (saw_mark a) (pending_of (state_of a) == 0) (saw_mark b) (pending_of (state_of b) == 0) over goes.saw
      (λ none. eq-eqb (pending_of (state_of b)) 0 (pending_later g laws (state_of a) (state_of b) is goes.sees.core goes.sees.later (eqb-true (pending_of (state_of a)) 0 none)))
