-- Each entry of a history is of a task that is done, at its place.
use Rattle.std.specs.Prelude.{◌≡◌, ℕ, ◌+◌, Bool, true, false, if◌then◌else◌, Option, Some, None, List, [], ◌∷◌, slice_set, slice_get, refl}
use Rattle.std.proofs.Common.{ap, sym, ◌∙◌, subst, arith, zero, suc}
use Rattle.chart_model.specs.Calculus.{Calculus}
use Rattle.chart_model.specs.Chart as model
use Rattle.chart_model.specs.Chart.{Row, Task, Chart, Leaf, Limits, Entry, Outcome, Fails, Fits, Makes, step, replayed, opened, with_done, with_outcome, with_whole, whole_row, leaf_row, peer_over, daughters, all_free}
use Rattle.chart_model.specs.At.{At, here, there, at_one, at_append, to_get, from_get}
use Rattle.chart_model.specs.Below.{Follows, IsRun}
use Rattle.chart_model.proofs.Gather.{free_at}
use Rattle.chart_model.proofs.Kept.{Begins, begins_itself}
use Rattle.chart_model.proofs.Unique.{set_hit}
use Rattle.chart_core.specs.declared.chart.Core.{Core}
use Rattle.chart_core.specs.Grammar.{Grammar}
use Rattle.chart_core.specs.CoreView.{chart_of, history_of, leaves_of, limits_of}
use Rattle.chart_core.specs.Kept.{IsCore}
use Rattle.chart_core.specs.Steps.{IsDoneAt}

set_other : {A : Type 0} (xs : List A) (s t : ℕ) (v x : A) → (t ≡ s → ⊥) → At xs t x → At (slice_set xs s v) t x
set_other [] s t v x other a = elim a [ ]
set_other (y ∷ xs) zero zero v x other a = absurd (other refl)
set_other (y ∷ xs) zero (suc t) v x other (there a) = there a
set_other (y ∷ xs) (suc s) zero v x other here = here
set_other (y ∷ xs) (suc s) (suc t) v x other (there a) = there (set_other xs s t v x (λ e. other (ap suc e)) a)

module _ {M C : Type 0} (k : Calculus M C) (limits : Limits) where
  -- what was done stays so, at its place
  record Keeps (ch next : Chart M C) : Type 0 where
    begins : Begins ch.done next.done
    places : next.places ≡ ch.places

  keeps_peer : (ch : Chart M C) (row : Row M C) (m : M) (o : Option ℕ) → peer_over k limits ch row m ≡ o → Keeps ch (with_whole k limits ch row m)
  keeps_peer ch row m (Some r) e = rw e (record { begins = begins_itself ch.done; places = refl })
  keeps_peer ch row m None e = rw e (record { begins = record { more = _; are = refl }; places = refl })

  keeps_outcome : (ch : Chart M C) (task : Task) (o : Outcome M C) → Keeps ch (with_outcome k limits ch task o)
  keeps_outcome ch task Fails = record { begins = begins_itself ch.done; places = refl }
  keeps_outcome ch task (Fits c) = record { begins = record { more = _; are = refl }; places = refl }
  keeps_outcome ch task (Makes c m) = keeps_peer ch (whole_row k limits ch task c m) m (peer_over k limits ch (whole_row k limits ch task c m) m) refl

  keeps_live : (ch : Chart M C) (t : ℕ) (task : Task) (o : Outcome M C) (b : Bool) → Keeps (with_done ch t) (if b then with_outcome k limits (with_done ch t) task o else with_done ch t)
  keeps_live ch t task o true = keeps_outcome (with_done ch t) task o
  keeps_live ch t task o false = record { begins = begins_itself (with_done ch t).done; places = refl }

  stepped : (ch : Chart M C) (e : Entry M C) → Follows k limits ch e → Keeps (with_done ch e.task) (step k limits ch e)
  stepped ch e f = rw (f.made, f.pending) (keeps_live ch e.task f.task e.outcome (all_free ch.into (daughters ch.rows f.task)))

  marks : (ch : Chart M C) (e : Entry M C) → Follows k limits ch e → At (step k limits ch e).done e.task (Some ch.places)
  marks ch e f =
      let s = stepped ch e f in
      subst (λ xs. At xs e.task (Some ch.places)) (sym s.begins.are) (at_append s.begins.more (set_hit ch.done e.task (Some ch.places) None (free_at ch.done e.task f.pending)))

  stays_marked : (ch : Chart M C) (e : Entry M C) → Follows k limits ch e → (t p : ℕ) → At ch.done t (Some p) → At (step k limits ch e).done t (Some p)
  stays_marked ch e f t p a =
      let s = stepped ch e f in
      let other : t ≡ e.task → ⊥ = λ q. let z : Some p ≡ None = at_one (subst (λ i. At ch.done i (Some p)) q a) (free_at ch.done e.task f.pending) in cc in
      subst (λ xs. At xs t (Some p)) (sym s.begins.are) (at_append s.begins.more (set_other ch.done e.task t (Some ch.places) (Some p) other a))

  stays_replayed : (es : List (Entry M C)) (ch : Chart M C) → IsRun k limits ch es → (t p : ℕ) → At ch.done t (Some p) → At (replayed k limits ch es).done t (Some p)
  stays_replayed [] ch run t p a = a
  stays_replayed (e ∷ es) ch run t p a = stays_replayed es (step k limits ch e) run.1 t p (stays_marked ch e run.0 t p a)

  done_replayed : (es : List (Entry M C)) (ch : Chart M C) → IsRun k limits ch es → (p : ℕ) (e : Entry M C) → At es p e → (place : ℕ) → place ≡ ch.places + p → At (replayed k limits ch es).done e.task (Some place)
  done_replayed [] ch run p x a place is = elim a [ ]
  done_replayed (e ∷ es) ch run zero x here place is =
      let same : place ≡ ch.places = omega (arith, is) in
      stays_replayed es (step k limits ch e) run.1 e.task place (subst (λ n. At (step k limits ch e).done e.task (Some n)) (sym same) (marks ch e run.0))
  done_replayed (e ∷ es) ch run (suc p) x (there a) place is =
      let next = (stepped ch e run.0).places in
      done_replayed es (step k limits ch e) run.1 p x a place (omega (arith, is, next))

  places_opened : (leaves : List (Leaf M C)) (ch : Chart M C) → (opened k limits ch leaves).places ≡ ch.places
  places_opened [] ch = refl
  places_opened (leaf ∷ leaves) ch = places_opened leaves (with_whole k limits ch (leaf_row k limits leaf) leaf.shape) ∙ (keeps_peer ch (leaf_row k limits leaf) leaf.shape (peer_over k limits ch (leaf_row k limits leaf) leaf.shape) refl).places

-- the task of an entry of the history is done at the entry's place
pub entry_done : {X T C W B M : Type 0} (g : Grammar T M C) (core : Core X T C W B) → IsCore g core → (p : ℕ) (e : Entry M C) → slice_get (history_of g.meaning core) p ≡ Some e → IsDoneAt (chart_of g.meaning core) e.task p
entry_done g core is p e h =
    let a = from_get (history_of g.meaning core) p e h in
    let start = opened g.calculus (limits_of core) (model.empty g.calculus (limits_of core)) (leaves_of g.meaning core) in
    let from = places_opened g.calculus (limits_of core) (leaves_of g.meaning core) (model.empty g.calculus (limits_of core)) in
    let z = done_replayed g.calculus (limits_of core) (history_of g.meaning core) start is.run p e a p (omega (arith, from)) in
    to_get (subst (λ (c : Chart _ _). At c.done e.task (Some p)) (sym is.state) z)
