-- How a chart's calls grow with its history.
use Rattle.std.proofs.Common.{◌≡◌, ◌∙◌, ℕ, List, [], ◌∷◌, ◌++◌, map, refl, sym, ap}
use Rattle.chart_model.specs.Tuples.{on_list}
use Rattle.chart_model.specs.Chart as model
use Rattle.chart_core.specs.declared.chart.Core.{Core}
use Rattle.chart_core.specs.declared.history.Entry.{Entry}
use Rattle.chart_core.specs.declared.Caller.{Caller}
use Rattle.chart_core.specs.declared.Entered.{Entered}
use Rattle.chart_core.specs.declared.Entered.TheVariants as entered
use Rattle.chart_core.specs.declared.Outcome.{Outcome}
use Rattle.chart_core.specs.Grammar.{Grammar}
use Rattle.chart_core.specs.CoreView.{history_of, entry_of, caller_of}
use Rattle.chart_core.specs.View.{rows_of}
use Rattle.chart_core.specs.Outcomes.{outcome_seen}
use Rattle.chart_core.specs.Steps.{added}
use Rattle.chart_core.specs.Calls.{Changes}
use Rattle.chart_core.specs.Later.{IsLater, later_by}
use Rattle.shared_chart.specs.declared.chart.Call.{Call}
use Rattle.shared_chart.specs.Calls.{call, call_of, calls_of}
use Rattle.shared_chart.specs.Told.{call_added}

abbrev seen_call : {M C : Type 0} → model.Entry M C → Call
seen_call e = call e.task (record { seat = e.by.seat; count = e.by.count })

module _ {A B : Type 0} (f : A → B) where
  map_append : (xs ys : List A) → map f (xs ++ ys) ≡ map f xs ++ map f ys
  map_append [] ys = refl
  map_append (x ∷ xs) ys = ap (λ l. f x ∷ l) (map_append xs ys)

module _ {M C : Type 0} (rows : List (model.Row M C)) where
  seen_calls : (es : List Entry) → map seen_call (map (entry_of rows) es) ≡ map call_of es
  seen_calls [] = refl
  seen_calls (e ∷ es) = ap (λ l. call_of e ∷ l) (seen_calls es)

module _ {M C : Type 0} where
  added_call : (t : ℕ) (o : model.Outcome M C) (by : Caller) (answer : Entered) → map seen_call (on_list (added t o (caller_of by) answer) []) ≡ on_list (call_added t by answer) []
  added_call t o by (entered.Stale place) = refl
  added_call t o by (entered.Skipped place row) = refl
  added_call t o by (entered.Noted place) = refl
  added_call t o by (entered.Full made) = refl
  added_call t o by (entered.Placed place row first end) = refl
  added_call t o by (entered.NoMemory) = refl

module _ {X T C W B M : Type 0} (g : Grammar T M C) where
  calls_are : (core : Core X T C W B) → map seen_call (history_of g.meaning core) ≡ calls_of core
  calls_are core = seen_calls (rows_of g.meaning core.rows.items) core.history.items

  pub calls_grow : (old new : Core X T C W B) (t : ℕ) (o : Outcome X T C W B) (by : Caller) (answer : Entered) → Changes g old t o by answer new → calls_of new ≡ calls_of old ++ on_list (call_added t by answer) []
  calls_grow old new t o by answer ch =
      sym (calls_are new) ∙ ap (map seen_call) ch.history ∙ map_append seen_call (history_of g.meaning old) (on_list (added t (outcome_seen g.meaning o) (caller_of by) answer) [])
      ∙ ap (λ l. l ++ map seen_call (on_list (added t (outcome_seen g.meaning o) (caller_of by) answer) [])) (calls_are old)
      ∙ ap (λ l. calls_of old ++ l) (added_call t (outcome_seen g.meaning o) by answer)

  pub entered_later : (old new : Core X T C W B) (t : ℕ) (o : Outcome X T C W B) (by : Caller) (answer : Entered) → Changes g old t o by answer new → IsLater g old new
  entered_later old new t o by answer ch = later_by g old new t (outcome_seen g.meaning o) by answer ch

  pub no_calls : (core : Core X T C W B) → history_of g.meaning core ≡ [] → calls_of core ≡ []
  no_calls core none = sym (calls_are core) ∙ ap (map seen_call) none
