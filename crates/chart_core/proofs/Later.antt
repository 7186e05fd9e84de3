-- What stays right over later steps.
use Rattle.std.specs.Prelude.{◌≡◌, ℕ, ◌<◌, ◌≤◌, Bool, true, false, if◌then◌else◌, is_none, Option, Some, None, List, [], ◌∷◌, ◌++◌, length, refl, slice_get}
use Rattle.std.proofs.Common.{ap, sym, ◌∙◌, subst, arith, append_assoc, length-append, zero, suc}
use Rattle.std.proofs.lemmas.List.{length-map}
use Rattle.chart_model.specs.Calculus.{Calculus, Laws}
use Rattle.chart_model.specs.Tuples.{on_list}
use Rattle.chart_model.specs.Chart as model
use Rattle.chart_model.specs.Chart.{Row, Task, Chart, Leaf, Limits, Entry, Outcome, Fails, Fits, Makes, step, step_at, replayed, with_done, with_outcome, with_whole, whole_row, peer_over, has_peer, frosted, daughters, all_free, is_free, covers_at, shapes_at, shape_of, IsRight}
use Rattle.chart_model.specs.At as Places
use Rattle.chart_model.specs.At.{At, here, there, at_below, at_one, at_append, at_found, to_get, from_get, at_snoc, Snoc}
use Rattle.chart_model.specs.Below.{Follows, IsRun}
use Rattle.chart_model.proofs.Complete.{Facts}
use Rattle.chart_model.proofs.Gather.{all_free_at, at_all_free}
use Rattle.chart_model.proofs.Pairing
use Rattle.chart_model.proofs.Standing
use Rattle.chart_model.proofs.Steps.{covers-more, low_ds, facts_step}
use Rattle.chart_model.proofs.Kept.{Begins, begins_itself, rows_begin, tasks_begin, same_daughters}
use Rattle.chart_model.proofs.Next.{WasPending, NextOf, was_pending, is_new, next_tasks}
use Rattle.chart_core.specs.declared.chart.Core.{Core}
use Rattle.chart_core.specs.Grammar.{Grammar}
use Rattle.chart_core.specs.CoreView.{chart_of, history_of, leaves_of, limits_of}
use Rattle.chart_core.specs.Kept.{IsCore, tasks_of, pending_of}
use Rattle.chart_core.specs.Sound.{left_of}
use Rattle.chart_core.specs.View.{rows_of, task_of}
use Rattle.chart_core.specs.Steps.{IsOpen, IsDoneAt, IsSkipped, IsRightAt}
use Rattle.chart_core.specs.Later.{IsLater}
use Rattle.chart_core.proofs.Facts.{facts_in}
use Rattle.chart_core.proofs.Frosted.{all_free_is}

none_if : {A : Type 0} (o : Option A) → is_none o ≡ true → o ≡ None
none_if None e = refl
none_if (Some x) e = absurd (cc)

begins_both : {A : Type 0} (xs ys zs : List A) → Begins xs ys → Begins ys zs → Begins xs zs
begins_both xs ys zs a b = record { more = a.more ++ b.more; are = b.are ∙ ap (λ ws. ws ++ b.more) a.are ∙ append_assoc xs a.more b.more }

module _ {M C : Type 0} (k : Calculus M C) (limits : Limits) where
  replayed_append : (ch : Chart M C) (xs ys : List (Entry M C)) → replayed k limits ch (xs ++ ys) ≡ replayed k limits (replayed k limits ch xs) ys
  replayed_append ch [] ys = refl
  replayed_append ch (e ∷ xs) ys = replayed_append (step k limits ch e) xs ys

  run_after : (ch : Chart M C) (xs ys : List (Entry M C)) → IsRun k limits ch (xs ++ ys) → IsRun k limits (replayed k limits ch xs) ys
  run_after ch [] ys run = run
  run_after ch (e ∷ xs) ys run = run_after (step k limits ch e) xs ys run.1

  rows_replayed : (ch : Chart M C) (es : List (Entry M C)) → Begins ch.rows (replayed k limits ch es).rows
  rows_replayed ch [] = begins_itself ch.rows
  rows_replayed ch (e ∷ es) = begins_both ch.rows (step k limits ch e).rows _ (rows_begin k limits ch e) (rows_replayed (step k limits ch e) es)

  tasks_replayed : (ch : Chart M C) (es : List (Entry M C)) → Begins ch.tasks (replayed k limits ch es).tasks
  tasks_replayed ch [] = begins_itself ch.tasks
  tasks_replayed ch (e ∷ es) = begins_both ch.tasks (step k limits ch e).tasks _ (tasks_begin k limits ch e) (tasks_replayed (step k limits ch e) es)

  shapes_kept : (rows more : List (Row M C)) (ds : List ℕ) → ((j d : ℕ) → At ds j d → d < length rows) → shapes_at (rows ++ more) ds ≡ shapes_at rows ds
  shapes_kept rows more [] range = refl
  shapes_kept rows more (d ∷ ds) range =
      let r = at_found rows d (range 0 d here) in
      ap (λ o. on_list (shape_of o) (shapes_at (rows ++ more) ds)) (to_get (at_append more r.1) ∙ sym (to_get r.1))
      ∙ ap (on_list (shape_of (slice_get rows d))) (shapes_kept rows more ds (λ j e a. range (suc j) e (there a)))

  -- what has no representative after a step had none before it
  abbrev Thaws : List (Row M C) → List (Option ℕ) → List (Option ℕ) → Type 0
  Thaws rows into cold = (i : ℕ) → i < length rows → At cold i None → At into i None

  thaw_frost : (rows : List (Row M C)) (into : List (Option ℕ)) (test : Row M C → Bool) (n : ℕ) → length into ≡ length rows → Thaws rows into (frosted k test n rows into ++ None ∷ [])
  thaw_frost rows into test n same i l a = of_snoc (at_snoc (frosted k test n rows into) None i None a)
    where
      of_frost : Standing.Frost k test n rows into i None → At into i None
      of_frost (Standing.written r e b) = absurd (cc)
      of_frost (Standing.frozen row b c t e) = absurd (cc)
      of_frost (Standing.stays row b c t e) = c
      of_frost (Standing.beyond q) = absurd (omega arith)

      of_snoc : Snoc (frosted k test n rows into) None i None → At into i None
      of_snoc (Places.old b) = of_frost (Standing.at_frost k test n rows into i None b)
      of_snoc (Places.new q e) = absurd (omega (arith, q, Standing.length-frosted k test n rows into))

  module _ (ch : Chart M C) (same : length ch.into ≡ length ch.rows) where
    thaw_peer : (row : Row M C) (m : M) (o : Option ℕ) → peer_over k limits ch row m ≡ o → Thaws ch.rows ch.into (with_whole k limits ch row m).into
    thaw_peer row m (Some r) e = rw e (Pairing.thaw_one k limits ch.rows ch.into (Some r) same)
    thaw_peer row m None e = rw e (thaw_frost ch.rows ch.into (has_peer k (k.over m) row.cover row.level) (length ch.rows) same)

    thaw_outcome : (task : Task) (o : Outcome M C) → Thaws ch.rows ch.into (with_outcome k limits ch task o).into
    thaw_outcome task Fails i l a = a
    thaw_outcome task (Fits c) i l a = Pairing.thaw_one k limits ch.rows ch.into None same i l a
    thaw_outcome task (Makes c m) i l a = thaw_peer (whole_row k limits ch task c m) m (peer_over k limits ch (whole_row k limits ch task c m) m) refl i l a

  module _ (ch : Chart M C) (same : length ch.into ≡ length ch.rows) where
    thaw_live : (t : ℕ) (task : Task) (o : Outcome M C) (b : Bool) → Thaws ch.rows ch.into (if b then with_outcome k limits (with_done ch t) task o else with_done ch t).into
    thaw_live t task o true i l a = thaw_outcome (with_done ch t) same task o i l a
    thaw_live t task o false i l a = a

    thaw_at : (t : ℕ) (o : Outcome M C) (task : Option Task) (pending : Bool) → Thaws ch.rows ch.into (step_at k limits ch t o task pending).into
    thaw_at t o None pending i l a = a
    thaw_at t o (Some task) false i l a = a
    thaw_at t o (Some task) true i l a = thaw_live t task o (all_free ch.into (daughters ch.rows task)) i l a

    thaw_step : (e : Entry M C) → Thaws ch.rows ch.into (step k limits ch e).into
    thaw_step e i l a = thaw_at e.task e.outcome (slice_get ch.tasks e.task) (is_free ch.done e.task) i l a

  module _ (leaves : List (Leaf M C)) (laws : Laws k) (o : Outcome M C) (t : ℕ) where
    -- an outcome that is right for a task stays so
    module _ (ch : Chart M C) (facts : Facts k limits leaves ch) (made : t < length ch.tasks) (e : Entry M C) (f : Follows k limits ch e) where
      abbrev next : Chart M C
      next = step k limits ch e

      abbrev Right : (Task → List (Row M C) → List ℕ → Type 0)
      Right task rows ds = IsRight k limits task.rule (length ds) (covers_at rows ds) (shapes_at rows ds) o

      module _ (p : IsOpen next t) (w : WasPending k limits ch e t p.task) where
        ds : List ℕ
        ds = daughters ch.rows p.task

        range : (j d : ℕ) → At (daughters ch.rows p.task) j d → d < length ch.rows
        range j d a = at_below (low_ds k limits leaves laws leaves ch facts t p.task w.at j d a).at

        same_ds : daughters next.rows p.task ≡ daughters ch.rows p.task
        same_ds = same_daughters k limits leaves laws ch facts next (rows_begin k limits ch e) t p.task w.at

        free_next : all_free next.into (daughters ch.rows p.task) ≡ true
        free_next = all_free_is next.into (daughters ch.rows p.task) ∙ ap (λ xs. is_none (model.first_frosted next.into xs)) (sym same_ds) ∙ ap is_none p.live

        was_free : all_free ch.into (daughters ch.rows p.task) ≡ true
        was_free = at_all_free ch.into (daughters ch.rows p.task) (λ j d a. thaw_step ch facts.standing.same_length e d (range j d a) (all_free_at next.into (daughters ch.rows p.task) free_next j d a))

        abbrev was_open : IsOpen ch t
        was_open = record { task = p.task; made = to_get w.at; pending = to_get w.pending; live = none_if (model.first_frosted ch.into (daughters ch.rows p.task)) (sym (all_free_is ch.into (daughters ch.rows p.task)) ∙ was_free) }

        right_now : IsRightAt k limits ch t o → Right p.task next.rows (daughters next.rows p.task)
        right_now right =
            let b = rows_begin k limits ch e in
            let cs = ap (λ rs. covers_at rs (daughters ch.rows p.task)) b.are ∙ covers-more ch.rows b.more (daughters ch.rows p.task) range in
            let ms = ap (λ rs. shapes_at rs (daughters ch.rows p.task)) b.are ∙ shapes_kept ch.rows b.more (daughters ch.rows p.task) range in
            subst (Right p.task next.rows) (sym same_ds)
            (subst (λ x. IsRight k limits p.task.rule (length (daughters ch.rows p.task)) x (shapes_at next.rows (daughters ch.rows p.task)) o) (sym cs)
            (subst (λ x. IsRight k limits p.task.rule (length (daughters ch.rows p.task)) (covers_at ch.rows (daughters ch.rows p.task)) x o) (sym ms) (right was_open)))

      right_step : IsRightAt k limits ch t o → IsRightAt k limits next t o
      right_step right p = of_next (next_tasks k limits ch e facts.same_done f t p.task (from_get next.tasks t p.task p.made) (from_get next.done t None p.pending))
        where
          of_next : NextOf k limits ch e f.task next t p.task → Right p.task next.rows (daughters next.rows p.task)
          of_next (was_pending w) = right_now p w right
          of_next (is_new b x) = absurd (omega (arith, b, made))

    right_replayed : (es : List (Entry M C)) (ch : Chart M C) → Facts k limits leaves ch → t < length ch.tasks → IsRun k limits ch es → IsRightAt k limits ch t o → IsRightAt k limits (replayed k limits ch es) t o
    right_replayed [] ch facts made run right = right
    right_replayed (e ∷ es) ch facts made run right =
        let b = tasks_begin k limits ch e in
        right_replayed es (step k limits ch e) (facts_step k limits leaves laws leaves ch facts e run.0) (omega (arith, made, ap length b.are, length-append ch.tasks b.more)) run.1 (right_step ch facts made e run.0 right)

-- where nothing is pending, no entry is one of a pending task
none_free : (xs : List (Option ℕ)) (i : ℕ) → left_of xs ≡ 0 → is_free xs i ≡ true → ⊥
none_free [] i e h = cc
none_free (None ∷ xs) i e h = omega (arith, e)
none_free (Some r ∷ xs) zero e h = cc
none_free (Some r ∷ xs) (suc i) e h = none_free xs i e h

module _ {X T C W B M : Type 0} (g : Grammar T M C) (laws : Laws g.calculus) (old new : Core X T C W B) (was : IsCore g old) (is : IsCore g new) (later : IsLater g old new) where
  abbrev start : model.Chart M C
  start = model.opened g.calculus (limits_of old) (model.empty g.calculus (limits_of old)) (leaves_of g.meaning old)

  state : chart_of g.meaning new ≡ replayed g.calculus (limits_of old) (chart_of g.meaning old) later.more
  state =
      is.state
      ∙ ap (λ l. model.Replay g.calculus l (leaves_of g.meaning new) (history_of g.meaning new)) later.limits_same
      ∙ ap (λ l. model.Replay g.calculus (limits_of old) l (history_of g.meaning new)) later.leaves_same
      ∙ ap (model.Replay g.calculus (limits_of old) (leaves_of g.meaning old)) later.history
      ∙ replayed_append g.calculus (limits_of old) start (history_of g.meaning old) later.more
      ∙ ap (λ c. replayed g.calculus (limits_of old) c later.more) (sym was.state)

  run : IsRun g.calculus (limits_of old) (chart_of g.meaning old) later.more
  run =
      subst (λ c. IsRun g.calculus (limits_of old) c later.more) (sym was.state)
      (run_after g.calculus (limits_of old) start (history_of g.meaning old) later.more
      (subst (IsRun g.calculus (limits_of old) start) later.history
      (subst (λ l. IsRun g.calculus (limits_of old) (model.opened g.calculus (limits_of old) (model.empty g.calculus (limits_of old)) l) (history_of g.meaning new)) later.leaves_same
      (subst (λ l. IsRun g.calculus l (model.opened g.calculus l (model.empty g.calculus l) (leaves_of g.meaning new)) (history_of g.meaning new)) later.limits_same is.run))))

  -- the rows are those that were, and more
  pub rows_later : Begins (rows_of g.meaning old.rows.items) (rows_of g.meaning new.rows.items)
  rows_later = subst (λ (c : model.Chart M C). Begins (rows_of g.meaning old.rows.items) c.rows) (sym state) (rows_replayed g.calculus (limits_of old) (chart_of g.meaning old) later.more)

  -- no task is lost
  pub tasks_later : tasks_of old ≤ tasks_of new
  tasks_later =
      let b = tasks_replayed g.calculus (limits_of old) (chart_of g.meaning old) later.more in
      let e = ap (λ (c : model.Chart M C). length c.tasks) state in
      omega (arith, e, ap length b.are, length-append (chart_of g.meaning old).tasks b.more, length-map old.tasks.items task_of, length-map new.tasks.items task_of)

  -- where nothing was pending nothing is
  pub pending_later : pending_of old ≡ 0 → pending_of new ≡ 0
  pending_later none = of_more later.more run state
    where
      of_more : (es : List (Entry M C)) → IsRun g.calculus (limits_of old) (chart_of g.meaning old) es → chart_of g.meaning new ≡ replayed g.calculus (limits_of old) (chart_of g.meaning old) es → pending_of new ≡ 0
      of_more [] run state = ap (λ (c : model.Chart M C). left_of c.done) state ∙ none
      of_more (e ∷ es) run state = absurd (none_free (chart_of g.meaning old).done e.task none run.0.pending)

  -- an outcome that was right for a task is so
  pub right_later : (t : ℕ) (o : model.Outcome M C) → t < tasks_of old → IsRightAt g.calculus (limits_of old) (chart_of g.meaning old) t o → IsRightAt g.calculus (limits_of new) (chart_of g.meaning new) t o
  right_later t o made right =
      subst (λ l. IsRightAt g.calculus l (chart_of g.meaning new) t o) (sym later.limits_same)
      (subst (λ c. IsRightAt g.calculus (limits_of old) c t o) (sym state)
      (right_replayed g.calculus (limits_of old) (leaves_of g.meaning old) laws o t later.more (chart_of g.meaning old) (facts_in g laws old was) (let n = length-map old.tasks.items task_of in omega (arith, n, made)) run right))

  -- each outcome is right for a task that was done, or skipped
  pub stays_done : (t place : ℕ) (o : model.Outcome M C) → t < tasks_of old → IsDoneAt (chart_of g.meaning old) t place → IsRightAt g.calculus (limits_of new) (chart_of g.meaning new) t o
  stays_done t place o made done = right_later t o made (λ p. absurd (let q = p.pending in cc))

  pub stays_skipped : (t row : ℕ) (o : model.Outcome M C) → t < tasks_of old → IsSkipped (chart_of g.meaning old) t row → IsRightAt g.calculus (limits_of new) (chart_of g.meaning new) t o
  stays_skipped t row o made skipped = right_later t o made (λ p. absurd (not_open p))
    where
      not_open : IsOpen (chart_of g.meaning old) t → ⊥
      not_open p =
          let e : skipped.task ≡ p.task = at_one (from_get _ t skipped.task skipped.made) (from_get _ t p.task p.made) in
          let f = ap (λ (u : model.Task). model.first_frosted (chart_of g.meaning old).into (model.daughters (chart_of g.meaning old).rows u)) e in
          let z : Some row ≡ None = sym skipped.frosted ∙ f ∙ p.live in
          cc
