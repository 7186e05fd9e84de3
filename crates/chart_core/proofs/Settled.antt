-- What is settled by one outcome.
use Rattle.std.specs.Prelude.{◌≡◌, ℕ, ◌≤◌, false, Some, List, [], length, refl}
use Rattle.std.proofs.Common.{ap, subst, arith, inl, inr}
use Rattle.std.proofs.lemmas.List.{length-map}
use Rattle.chart_model.specs.Chart as model
use Rattle.chart_model.specs.At.{At, from_get}
use Rattle.chart_model.proofs.Kept.{more_tasks}
use Rattle.chart_core.specs.declared.chart.Core.{Core}
use Rattle.chart_core.specs.declared.Caller.{Caller}
use Rattle.chart_core.specs.declared.Entered.{Entered}
use Rattle.chart_core.specs.declared.Entered.TheVariants as entered
use Rattle.chart_core.specs.declared.Outcome.{Outcome}
use Rattle.chart_core.specs.declared.Outcome.TheVariants as outcomes
use Rattle.chart_core.specs.declared.Verdict.{Verdict}
use Rattle.chart_core.specs.Grammar.{Grammar}
use Rattle.chart_core.specs.View.{task_of}
use Rattle.chart_core.specs.CoreView.{chart_of, limits_of, leaves_of, caller_of}
use Rattle.chart_core.specs.Steps.{IsRightAt, Answers}
use Rattle.chart_core.specs.Calls.{ChangesBy, AreRightVerdicts}
use Rattle.chart_core.specs.Passing.{IsSettled, was_done, by_step, StaysOver}
use Rattle.chart_core.proofs.Commute.{adds_open, adds_skipped}

module _ {X T C W B M : Type 0} (g : Grammar T M C) (old new : Core X T C W B) (t : ℕ) (o : model.Outcome M C) where
  abbrev ch : model.Chart M C
  ch = chart_of g.meaning old

  pub settled_by : (by : Caller) (answer : Entered) → IsRightAt g.calculus (limits_of old) ch t o → Answers g.calculus (limits_of old) ch t false o (caller_of by) answer → ChangesBy g old t o by answer new → (answer ≡ entered.NoMemory → ⊥) → IsSettled g old t o new
  settled_by by (entered.Stale place) right a c other = was_done place (from_get ch.done t (Some place) a) c.chart
  settled_by by (entered.Skipped place row) right a c other = by_step (record { task = t; outcome = model.Fails; by = caller_of by }) (adds_skipped g.calculus (limits_of old) ch t row.0 (caller_of by) a.0) refl (inl refl) c.chart
  settled_by by (entered.Noted place) right a c other = by_step (record { task = t; outcome = o; by = caller_of by }) (adds_open g.calculus (limits_of old) ch t o (caller_of by) a.0 right) refl (inr refl) c.chart
  settled_by by (entered.Full made) right a c other = absurd (let h = a.0 in cc)
  settled_by by (entered.Placed place row first end) right a c other = by_step (record { task = t; outcome = o; by = caller_of by }) (adds_open g.calculus (limits_of old) ch t o (caller_of by) a.live right) refl (inr refl) c.chart
  settled_by by (entered.NoMemory) right a c other = absurd (other refl)

  tasks_grow : IsSettled g old t o new → length ch.tasks ≤ length (chart_of g.meaning new).tasks
  tasks_grow (was_done place d e) = let n = ap (λ (c : model.Chart M C). length c.tasks) e in omega (arith, n)
  tasks_grow (by_step e f s p q) = let n = ap (λ (c : model.Chart M C). length c.tasks) q in let m = more_tasks g.calculus (limits_of old) ch e in omega (arith, n, m)

  pub stays_over : IsSettled g old t o new → limits_of new ≡ limits_of old → leaves_of g.meaning new ≡ leaves_of g.meaning old → StaysOver g old new
  stays_over s limits leaves = record { limits_same = limits; leaves_same = leaves; more = let n = tasks_grow s in let a = length-map old.tasks.items task_of in let b = length-map new.tasks.items task_of in omega (arith, n, a, b) }

-- where there is no verdict, each is right
module _ {X T C W B M : Type 0} (g : Grammar T M C) (core : Core X T C W B) where
  pub none_wrong : (o : Outcome X T C W B) (verdicts : List Verdict) → verdicts ≡ [] → AreRightVerdicts g core o verdicts
  none_wrong (outcomes.Fails) vs e = tt
  none_wrong (outcomes.Fits c) vs e = tt
  none_wrong (outcomes.Whole c s) vs e = λ i v row a b. absurd (no_place (subst (λ xs. At xs i v) e a))
    where
      no_place : {i : ℕ} {v : Verdict} → At [] i v → ⊥
      no_place a = elim a [ ]
