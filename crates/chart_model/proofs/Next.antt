-- What is pending after a step: what was pending before it, and the new tasks.
use Rattle.std.specs.Prelude.{◌≡◌, ℕ, ◌≤◌, nat_le, Bool, true, false, if◌then◌else◌, Option, Some, None, List, [], ◌∷◌, ◌++◌, length, map, refl, slice_set}
use Rattle.std.proofs.Common.{ap, subst, sym, ◌∙◌, arith}
use Rattle.std.proofs.lemmas.List.{length-set}
use Rattle.chart_model.specs.Calculus.{Calculus}
use Rattle.chart_model.specs.At.{At, at_below, at_one, at_last, to_get}
use Rattle.chart_model.specs.Chart.{Row, Task, Chart, Limits, Entry, Outcome, Fails, Fits, Makes, with_done, with_outcome, with_host, with_frost, whole_row, partial_row, peer_over, has_peer, frosted, tasks_of_host, tasks_of_partial, rule_tasks, gather, host_task, partial_task, step, before, daughters, daughters_of_row, all_free, levels_at, level_above}
use Rattle.chart_model.specs.Below.{Follows}
use Rattle.chart_model.proofs.Gather
use Rattle.chart_model.proofs.Gather.{Either, left, right}
use Rattle.chart_model.proofs.Pairing
use Rattle.chart_model.proofs.Steps.{set_at}
use Rattle.chart_model.proofs.Unique.{set_hit}

module _ {M C : Type 0} (k : Calculus M C) (limits : Limits) where
  -- a task that was pending before the step, and isn't the one that the step enters
  pub record WasPending (ch : Chart M C) (e : Entry M C) (t : ℕ) (task : Task) : Type 0 where
    pub at : At ch.tasks t task
    pub pending : At ch.done t None
    pub other : t ≡ e.task → ⊥

  -- a new task is one over the new host, or one that goes on from the new partial
  pub data IsNew (ch : Chart M C) (entered : Task) (rows : List (Row M C)) (task : Task) : Outcome M C → Type 0 where
    over_host : (c : C) (m : M) (row : Row M C) → task.host ≡ length ch.rows → At rows (length ch.rows) row → row.cover ≡ c → row.level ≡ level_above (levels_at ch.rows (daughters ch.rows entered)) → IsNew ch entered rows task (Makes c m)
    over_partial : (c : C) → task.rule ≡ entered.rule → daughters rows task ≡ daughters ch.rows entered ++ task.host ∷ [] → IsNew ch entered rows task (Fits c)

  none_of : Task → Option ℕ
  none_of task = None

  -- what is pending in a chart with more tasks, where one is marked as done
  marked : (ch : Chart M C) (e : Entry M C) (added : List Task) (t : ℕ) (task : Task) → length ch.done ≡ length ch.tasks → At ch.done e.task None → At (ch.tasks ++ added) t task → At (slice_set ch.done e.task (Some ch.places) ++ map (λ _. None) added) t None → Either (WasPending ch e t task) (Gather.Behind ch.tasks added t task)
  marked ch e added t task same was a d = of_task (Gather.split_at ch.tasks added t task a)
    where
      other : At (slice_set ch.done e.task (Some ch.places)) t None → t ≡ e.task → ⊥
      other b q = absurd (let z : Some ch.places ≡ None = at_one (set_hit ch.done e.task (Some ch.places) None was) (subst (λ i. At (slice_set ch.done e.task (Some ch.places)) i None) q b) in cc)

      of_done : At ch.tasks t task → Either (At (slice_set ch.done e.task (Some ch.places)) t None) (Gather.Behind (slice_set ch.done e.task (Some ch.places)) (map (λ _. None) added) t None) → WasPending ch e t task
      of_done b (left x) = record { at = b; pending = elim (set_at ch.done e.task t (Some ch.places) None x) [ left y ↦ y | right y ↦ absurd (let z = y.1 in cc) ]; other = other x }
      of_done b (right x) = absurd (omega (arith, x.number, length-set ch.done e.task (Some ch.places), same, at_below b))

      of_task : Either (At ch.tasks t task) (Gather.Behind ch.tasks added t task) → Either (WasPending ch e t task) (Gather.Behind ch.tasks added t task)
      of_task (left b) = left (of_done b (Gather.split_at (slice_set ch.done e.task (Some ch.places)) (map (λ _. None) added) t None d))
      of_task (right b) = right b

  marked_only : (ch : Chart M C) (e : Entry M C) (t : ℕ) (task : Task) → At ch.done e.task None → At ch.tasks t task → At (slice_set ch.done e.task (Some ch.places)) t None → WasPending ch e t task
  marked_only ch e t task was a d =
      record {
        at = a;
        pending = elim (set_at ch.done e.task t (Some ch.places) None d) [ left y ↦ y | right y ↦ absurd (let z = y.1 in cc) ];
        other = λ q. absurd (let z : Some ch.places ≡ None = at_one (set_hit ch.done e.task (Some ch.places) None was) (subst (λ i. At (slice_set ch.done e.task (Some ch.places)) i None) q d) in cc);
      }

  -- a pending task of a chart is an old one, or a new one
  pub data NextOf (ch : Chart M C) (e : Entry M C) (entered : Task) (next : Chart M C) (t : ℕ) (task : Task) : Type 0 where
    was_pending : WasPending ch e t task → NextOf ch e entered next t task
    is_new : length ch.tasks ≤ t → IsNew ch entered next.rows task e.outcome → NextOf ch e entered next t task

  abbrev pub Nexts : (ch : Chart M C) (e : Entry M C) (entered : Task) (next : Chart M C) → Type 0
  Nexts ch e entered next = (t : ℕ) (task : Task) → At next.tasks t task → At next.done t None → NextOf ch e entered next t task

  host_of_rule : (n t more : ℕ) (task : Task) → At (rule_tasks n 0 more) t task → task.host ≡ n
  host_of_rule n t more task a = (Gather.rule_is n 0 more t task a).host

  host_of_pair : (rows : List (Row M C)) (into : List (Option ℕ)) (c : C) (n t : ℕ) (task : Task) → At (gather k (host_task k into c n) 0 rows) t task → task.host ≡ n
  host_of_pair rows into c n t task a =
      let r = Gather.gather_is k (host_task k into c n) 0 rows t task a in
      let q = Pairing.host_task_is k limits into c n r.place r.row task (Gather.from_zero k (host_task k into c n) rows task r) in
      ap (λ (x : Task). x.host) (sym q.is)

  host_of_new : (rows : List (Row M C)) (into : List (Option ℕ)) (c : C) (n level t : ℕ) (task : Task) (b : Bool) → At (if b then rule_tasks n 0 k.rules ++ gather k (host_task k into c n) 0 rows else []) t task → task.host ≡ n
  host_of_new rows into c n level t task false a = elim a [ ]
  host_of_new rows into c n level t task true a =
      elim (Gather.split_at (rule_tasks n 0 k.rules) (gather k (host_task k into c n) 0 rows) t task a) [
        | left b ↦ host_of_rule n t k.rules task b
        | right b ↦ host_of_pair rows into c n b.place task b.at
      ]

  module _ (ch : Chart M C) (e : Entry M C) (same : length ch.done ≡ length ch.tasks) (f : Follows k limits ch e) where
    was : At ch.done e.task None
    was = Gather.free_at ch.done e.task f.pending

    next_done : (o : Outcome M C) → e.outcome ≡ o → Nexts ch e f.task (with_done ch e.task)
    next_done o q t task a d = was_pending (marked_only ch e t task was a d)

    next_fits : (c : C) → e.outcome ≡ Fits c → Nexts ch e f.task (with_outcome k limits (with_done ch e.task) f.task (Fits c))
    next_fits c q t task a d = of_marked (marked ch e added t task same was a d)
      where
        added : List Task
        added = tasks_of_partial k limits ch.rows ch.into (length ch.rows) f.task.rule c

        of_marked : Either (WasPending ch e t task) (Gather.Behind ch.tasks added t task) → NextOf ch e f.task (with_outcome k limits (with_done ch e.task) f.task (Fits c)) t task
        of_marked (left w) = was_pending w
        of_marked (right b) =
            let r = Gather.gather_is k (partial_task k limits.unary ch.into f.task.rule c (length ch.rows)) 0 ch.rows b.place task b.at in
            let p = Pairing.partial_task_is k limits ch.into f.task.rule c (length ch.rows) r.place r.row task (Gather.from_zero k (partial_task k limits.unary ch.into f.task.rule c (length ch.rows)) ch.rows task r) in
            let w = partial_row k limits (with_done ch e.task) f.task c in
            let front : before (ch.rows ++ w ∷ []) task.partial ≡ daughters ch.rows f.task = ap (before (ch.rows ++ w ∷ [])) (ap (λ (x : Task). x.partial) (sym p.is)) ∙ ap daughters_of_row (to_get (at_last ch.rows w)) in
            is_new (omega (arith, b.number)) (subst (IsNew ch f.task (ch.rows ++ w ∷ []) task) (sym q) (over_partial c (ap (λ (x : Task). x.rule) (sym p.is)) (ap (λ xs. xs ++ task.host ∷ []) front)))

    module _ (c : C) (m : M) (q : e.outcome ≡ Makes c m) where
      abbrev the_row : Row M C
      the_row = whole_row k limits (with_done ch e.task) f.task c m

      abbrev cold : List (Option ℕ)
      cold = frosted k (has_peer k (k.over m) the_row.cover the_row.level) (length ch.rows) ch.rows ch.into

      next_packed : (r : ℕ) → Nexts ch e f.task (record (with_done ch e.task) { rows = ch.rows ++ the_row ∷ []; into = ch.into ++ Some r ∷ [] })
      next_packed r t task a d = was_pending (marked_only ch e t task was a d)

      next_host : Nexts ch e f.task (with_host k limits (with_frost k limits (with_done ch e.task) the_row m) the_row)
      next_host t task a d = of_marked (marked ch e added t task same was a d)
        where
          added : List Task
          added = tasks_of_host k limits ch.rows cold (length ch.rows) the_row.cover the_row.level

          of_marked : Either (WasPending ch e t task) (Gather.Behind ch.tasks added t task) → NextOf ch e f.task (with_host k limits (with_frost k limits (with_done ch e.task) the_row m) the_row) t task
          of_marked (left w) = was_pending w
          of_marked (right b) =
              let h = host_of_new ch.rows cold the_row.cover (length ch.rows) the_row.level b.place task (nat_le the_row.level limits.unary) b.at in
              is_new (omega (arith, b.number)) (subst (IsNew ch f.task (ch.rows ++ the_row ∷ []) task) (sym q) (over_host c m the_row h (at_last ch.rows the_row) refl refl))

      next_makes : (o : Option ℕ) → peer_over k limits (with_done ch e.task) the_row m ≡ o → Nexts ch e f.task (with_outcome k limits (with_done ch e.task) f.task (Makes c m))
      next_makes (Some r) p = rw p (next_packed r)
      next_makes None p = rw p next_host

    next_outcome : (o : Outcome M C) → e.outcome ≡ o → Nexts ch e f.task (with_outcome k limits (with_done ch e.task) f.task o)
    next_outcome Fails q = next_done Fails q
    next_outcome (Fits c) q = next_fits c q
    next_outcome (Makes c m) q = next_makes c m q (peer_over k limits (with_done ch e.task) (the_row c m q) m) refl

    next_live : (b : Bool) → Nexts ch e f.task (if b then with_outcome k limits (with_done ch e.task) f.task e.outcome else with_done ch e.task)
    next_live true = next_outcome e.outcome refl
    next_live false = next_done e.outcome refl

    -- what is pending after a step
    pub next_tasks : Nexts ch e f.task (step k limits ch e)
    next_tasks = rw (f.made, f.pending) (next_live (all_free ch.into (daughters ch.rows f.task)))
