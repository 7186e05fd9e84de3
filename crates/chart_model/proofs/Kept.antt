-- What a step leaves as it was of the tasks that were made.
use Rattle.std.specs.Prelude.{◌≡◌, ℕ, ◌<◌, ◌≤◌, Bool, true, false, if◌then◌else◌, Option, Some, None, List, [], ◌∷◌, ◌++◌, length, refl, slice_get}
use Rattle.std.proofs.Common.{ap, subst, sym, ◌∙◌, arith, append-nil, length-append}
use Rattle.chart_model.specs.Calculus.{Calculus, Laws}
use Rattle.chart_model.specs.At.{At, at_below, at_append}
use Rattle.chart_model.specs.Chart.{Row, Task, Chart, Leaf, Limits, Entry, Outcome, Fails, Fits, Makes, with_done, with_outcome, with_whole, whole_row, peer_over, tasks_of_partial, step, step_at, is_free, daughters, all_free, covers_at, levels_at, level_above}
use Rattle.chart_model.specs.Ordered.{GivesMother, IsLate}
use Rattle.chart_model.proofs.Complete.{Facts}
use Rattle.chart_model.proofs.Steps.{covers-more, levels-more, daughters_more, low_ds}
use Rattle.chart_model.proofs.Leaves.{Grows, same_rows, one_row, grows_at}

-- the second list begins with the first
pub record Begins {A : Type 0} (xs ys : List A) : Type 0 where
  pub more : List A
  pub are : ys ≡ xs ++ more

pub begins_itself : {A : Type 0} (xs : List A) → Begins xs xs
begins_itself xs = record { more = []; are = sym (append-nil xs) }

module _ {M C : Type 0} (k : Calculus M C) (limits : Limits) where
  rows_grown : (rows next : List (Row M C)) → Grows k limits rows next → Begins rows next
  rows_grown rows next (same_rows e) = record { more = []; are = e ∙ sym (append-nil rows) }
  rows_grown rows next (one_row w n e) = record { more = w ∷ []; are = e }

  -- the rows and the tasks only grow
  pub rows_begin : (ch : Chart M C) (e : Entry M C) → Begins ch.rows (step k limits ch e).rows
  rows_begin ch e = rows_grown ch.rows (step k limits ch e).rows (grows_at k limits ch e.task e.outcome (slice_get ch.tasks e.task) (is_free ch.done e.task))

  tasks_peer : (ch : Chart M C) (row : Row M C) (m : M) (o : Option ℕ) → peer_over k limits ch row m ≡ o → Begins ch.tasks (with_whole k limits ch row m).tasks
  tasks_peer ch row m (Some r) e = rw e (begins_itself ch.tasks)
  tasks_peer ch row m None e = rw e (record { more = _; are = refl })

  tasks_outcome : (ch : Chart M C) (task : Task) (o : Outcome M C) → Begins ch.tasks (with_outcome k limits ch task o).tasks
  tasks_outcome ch task Fails = begins_itself ch.tasks
  tasks_outcome ch task (Fits c) = record { more = tasks_of_partial k limits ch.rows ch.into (length ch.rows) task.rule c; are = refl }
  tasks_outcome ch task (Makes c m) = tasks_peer ch (whole_row k limits ch task c m) m (peer_over k limits ch (whole_row k limits ch task c m) m) refl

  tasks_live : (ch : Chart M C) (t : ℕ) (task : Task) (o : Outcome M C) (b : Bool) → Begins ch.tasks (if b then with_outcome k limits (with_done ch t) task o else with_done ch t).tasks
  tasks_live ch t task o true = tasks_outcome (with_done ch t) task o
  tasks_live ch t task o false = begins_itself ch.tasks

  tasks_at : (ch : Chart M C) (t : ℕ) (o : Outcome M C) (task : Option Task) (pending : Bool) → Begins ch.tasks (step_at k limits ch t o task pending).tasks
  tasks_at ch t o None pending = begins_itself ch.tasks
  tasks_at ch t o (Some task) false = begins_itself ch.tasks
  tasks_at ch t o (Some task) true = tasks_live ch t task o (all_free ch.into (daughters ch.rows task))

  pub tasks_begin : (ch : Chart M C) (e : Entry M C) → Begins ch.tasks (step k limits ch e).tasks
  tasks_begin ch e = tasks_at ch e.task e.outcome (slice_get ch.tasks e.task) (is_free ch.done e.task)

  pub more_tasks : (ch : Chart M C) (e : Entry M C) → length ch.tasks ≤ length (step k limits ch e).tasks
  more_tasks ch e = let b = tasks_begin ch e in omega (arith, ap length b.are, length-append ch.tasks b.more)

  pub task_kept : (ch : Chart M C) (e : Entry M C) (t : ℕ) (task : Task) → At ch.tasks t task → At (step k limits ch e).tasks t task
  task_kept ch e t task a = let b = tasks_begin ch e in subst (λ ts. At ts t task) (sym b.are) (at_append b.more a)

  module _ (leaves : List (Leaf M C)) (laws : Laws k) (ch : Chart M C) (facts : Facts k limits leaves ch) (next : Chart M C) (grown : Begins ch.rows next.rows) (t : ℕ) (task : Task) (at : At ch.tasks t task) where
    range : (j d : ℕ) → At (daughters ch.rows task) j d → d < length ch.rows
    range j d a = at_below (low_ds k limits leaves laws leaves ch facts t task at j d a).at

    -- a task has the same daughters, with the same covers and levels
    pub same_daughters : daughters next.rows task ≡ daughters ch.rows task
    same_daughters = ap (λ rs. daughters rs task) grown.are ∙ daughters_more k limits leaves ch.rows grown.more task (facts.pairing.task_ok t task at)

    same_covers : covers_at next.rows (daughters next.rows task) ≡ covers_at ch.rows (daughters ch.rows task)
    same_covers = ap (covers_at next.rows) same_daughters ∙ ap (λ rs. covers_at rs (daughters ch.rows task)) grown.are ∙ covers-more ch.rows grown.more (daughters ch.rows task) range

    same_levels : levels_at next.rows (daughters next.rows task) ≡ levels_at ch.rows (daughters ch.rows task)
    same_levels = ap (levels_at next.rows) same_daughters ∙ ap (λ rs. levels_at rs (daughters ch.rows task)) grown.are ∙ levels-more k limits leaves ch.rows grown.more (daughters ch.rows task) range

    -- so it gives the same mother, and is late as before
    pub mother_kept : (size level : ℕ) → GivesMother k ch task size level → GivesMother k next task size level
    mother_kept size level m = record { whole = ap length same_daughters ∙ m.whole; cover = m.cover; covers = ap (k.covers task.rule) same_covers ∙ m.covers; size_is = m.size_is; level_is = m.level_is ∙ ap level_above (sym same_levels) }

    mother_was : (size level : ℕ) → GivesMother k next task size level → GivesMother k ch task size level
    mother_was size level m = record { whole = ap length (sym same_daughters) ∙ m.whole; cover = m.cover; covers = ap (k.covers task.rule) (sym same_covers) ∙ m.covers; size_is = m.size_is; level_is = m.level_is ∙ ap level_above same_levels }

    pub late_kept : (n l : ℕ) → IsLate k ch n l task → IsLate k next n l task
    late_kept n l late =
        record {
          mother = λ size level m. late.mother size level (mother_was size level m);
          front = λ short.
              let f = late.front (omega (arith, ap length same_daughters)) in
              record { place = f.place; number = f.number; at = subst (λ ds. At ds f.place f.number) (sym same_daughters) f.at; row = f.row; row_at = subst (λ rs. At rs f.number f.row) (sym grown.are) (at_append grown.more f.row_at); late = f.late };
        }
