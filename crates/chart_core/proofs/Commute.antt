-- One step of a chart, where the task is open or skipped.
use Rattle.std.specs.Prelude.{◌≡◌, ℕ, ◌+◌, ◌<◌, ◌++◌, Bool, true, false, is_none, Option, Some, None, List, [], ◌∷◌, length, map, slice_get, slice_set, if◌then◌else◌}
use Rattle.std.proofs.Common.{refl, ap, sym, ◌∙◌, arith, zero, suc}
use Rattle.chart_model.specs.Calculus.{Calculus}
use Rattle.chart_model.specs.Chart as model
use Rattle.chart_model.specs.Below.{Follows}
use Rattle.chart_model.specs.At.{from_get, at_below}
use Rattle.chart_model.proofs.Gather.{at_free}
use Rattle.chart_core.specs.Steps.{IsOpen, IsSkipped, IsRightAt}
use Rattle.chart_core.proofs.Frosted.{all_free_is}

set_append : {A : Type 0} (xs ys : List A) (t : ℕ) (v : A) → t < length xs → slice_set (xs ++ ys) t v ≡ slice_set xs t v ++ ys
set_append [] ys t v l = absurd (omega arith)
set_append (x ∷ xs) ys zero v l = refl
set_append (x ∷ xs) ys (suc t) v l = ap (λ zs. x ∷ zs) (set_append xs ys t v (omega arith))

module _ {M C : Type 0} (k : Calculus M C) (limits : model.Limits) where
  with_done_parts : (ch : model.Chart M C) (t : ℕ) (rows : List (model.Row M C)) (into : List (Option ℕ)) (tasks : List model.Task) (more : List (Option ℕ)) (made : ℕ) → t < length ch.done → record { rows = rows; into = into; tasks = tasks; done = slice_set ch.done t (Some ch.places) ++ more; made = made; places = ch.places + 1 } ≡ model.with_done (record { rows = rows; into = into; tasks = tasks; done = ch.done ++ more; made = made; places = ch.places }) t
  with_done_parts ch t rows into tasks more made l = ap (λ d. record { rows = rows; into = into; tasks = tasks; done = d; made = made; places = ch.places + 1 }) (sym (set_append ch.done more t (Some ch.places) l))

  commute_whole : (ch : model.Chart M C) (t : ℕ) (row : model.Row M C) (m : M) → t < length ch.done → (o : Option ℕ) → model.peer_over k limits ch row m ≡ o → model.with_whole k limits (model.with_done ch t) row m ≡ model.with_done (model.with_whole k limits ch row m) t
  commute_whole ch t row m l None e = rw e (with_done_parts ch t (ch.rows ++ row ∷ []) (model.frosted k (model.has_peer k (k.over m) row.cover row.level) (length ch.rows) ch.rows ch.into ++ None ∷ []) (ch.tasks ++ model.tasks_of_host k limits ch.rows (model.frosted k (model.has_peer k (k.over m) row.cover row.level) (length ch.rows) ch.rows ch.into) (length ch.rows) row.cover row.level) (map (λ _. None) (model.tasks_of_host k limits ch.rows (model.frosted k (model.has_peer k (k.over m) row.cover row.level) (length ch.rows) ch.rows ch.into) (length ch.rows) row.cover row.level)) (ch.made + 1) l)
  commute_whole ch t row m l (Some r) e = rw e refl

  pub commute : (ch : model.Chart M C) (t : ℕ) (task : model.Task) (o : model.Outcome M C) → t < length ch.done → model.with_outcome k limits (model.with_done ch t) task o ≡ model.with_done (model.with_outcome k limits ch task o) t
  commute ch t task model.Fails l = refl
  commute ch t task (model.Fits c) l = with_done_parts ch t (ch.rows ++ model.partial_row k limits ch task c ∷ []) (ch.into ++ None ∷ []) (ch.tasks ++ model.tasks_of_partial k limits ch.rows ch.into (length ch.rows) task.rule c) (map (λ _. None) (model.tasks_of_partial k limits ch.rows ch.into (length ch.rows) task.rule c)) ch.made l
  commute ch t task (model.Makes c m) l = commute_whole ch t (model.whole_row k limits ch task c m) m l (model.peer_over k limits ch (model.whole_row k limits ch task c m) m) refl

  step_by : (ch : model.Chart M C) (t : ℕ) (o : model.Outcome M C) (task : model.Task) (q : Option model.Task) (p : Bool) → q ≡ Some task → p ≡ true → model.step_at k limits ch t o q p ≡ (if model.all_free ch.into (model.daughters ch.rows task) then model.with_outcome k limits (model.with_done ch t) task o else model.with_done ch t)
  step_by ch t o task None p e f = absurd (cc)
  step_by ch t o task (Some u) false e f = absurd (cc)
  step_by ch t o task (Some u) true e f = let z : u ≡ task = cc in ap (λ (u : model.Task). if model.all_free ch.into (model.daughters ch.rows u) then model.with_outcome k limits (model.with_done ch t) u o else model.with_done ch t) z

  free_here : (ch : model.Chart M C) (t : ℕ) → slice_get ch.done t ≡ Some None → model.is_free ch.done t ≡ true
  free_here ch t e = at_free ch.done t (from_get ch.done t None e)

  -- a step over an open task gives its row
  pub step_open : (ch : model.Chart M C) (t : ℕ) (o : model.Outcome M C) (by : model.Caller) (p : IsOpen ch t) → model.step k limits ch (record { task = t; outcome = o; by = by }) ≡ model.with_done (model.with_outcome k limits ch p.task o) t
  step_open ch t o by p =
      let live : model.all_free ch.into (model.daughters ch.rows p.task) ≡ true = all_free_is ch.into (model.daughters ch.rows p.task) ∙ ap is_none p.live in
      step_by ch t o p.task (slice_get ch.tasks t) (model.is_free ch.done t) p.made (free_here ch t p.pending)
      ∙ ap (λ b. if b then model.with_outcome k limits (model.with_done ch t) p.task o else model.with_done ch t) live
      ∙ commute ch t p.task o (at_below (from_get ch.done t None p.pending))

  -- a step over a skipped one gives none
  pub step_skipped : (ch : model.Chart M C) (t row : ℕ) (o : model.Outcome M C) (by : model.Caller) (p : IsSkipped ch t row) → model.step k limits ch (record { task = t; outcome = o; by = by }) ≡ model.with_done ch t
  step_skipped ch t row o by p =
      let frosted : model.all_free ch.into (model.daughters ch.rows p.task) ≡ false = all_free_is ch.into (model.daughters ch.rows p.task) ∙ ap is_none p.frosted in
      step_by ch t o p.task (slice_get ch.tasks t) (model.is_free ch.done t) p.made (free_here ch t p.pending)
      ∙ ap (λ b. if b then model.with_outcome k limits (model.with_done ch t) p.task o else model.with_done ch t) frosted

  pub adds_open : (ch : model.Chart M C) (t : ℕ) (o : model.Outcome M C) (by : model.Caller) (p : IsOpen ch t) → IsRightAt k limits ch t o → Follows k limits ch (record { task = t; outcome = o; by = by })
  adds_open ch t o by p right =
      let live : model.all_free ch.into (model.daughters ch.rows p.task) ≡ true = all_free_is ch.into (model.daughters ch.rows p.task) ∙ ap is_none p.live in
      record { task = p.task; made = p.made; pending = free_here ch t p.pending; skipped = λ e. absurd (cc); right = λ e. right p }

  pub adds_skipped : (ch : model.Chart M C) (t row : ℕ) (by : model.Caller) (p : IsSkipped ch t row) → Follows k limits ch (record { task = t; outcome = model.Fails; by = by })
  adds_skipped ch t row by p =
      let frosted : model.all_free ch.into (model.daughters ch.rows p.task) ≡ false = all_free_is ch.into (model.daughters ch.rows p.task) ∙ ap is_none p.frosted in
      record { task = p.task; made = p.made; pending = free_here ch t p.pending; skipped = λ e. refl; right = λ e. absurd (cc) }

  -- the task of an open place is one
  pub open_task : (ch : model.Chart M C) (t : ℕ) (p q : IsOpen ch t) → p.task ≡ q.task
  open_task ch t p q = let a = p.made in let b = q.made in cc

  rows_whole : (ch : model.Chart M C) (row : model.Row M C) (m : M) (o : Option ℕ) → model.peer_over k limits ch row m ≡ o → (model.with_whole k limits ch row m).rows ≡ ch.rows ++ row ∷ []
  rows_whole ch row m None e = rw e refl
  rows_whole ch row m (Some r) e = rw e refl

  pub whole_rows : (ch : model.Chart M C) (row : model.Row M C) (m : M) → (model.with_whole k limits ch row m).rows ≡ ch.rows ++ row ∷ []
  whole_rows ch row m = rows_whole ch row m (model.peer_over k limits ch row m) refl

  pub whole_packed : (ch : model.Chart M C) (row : model.Row M C) (m : M) (r : ℕ) → model.peer_over k limits ch row m ≡ Some r → model.with_row ch row (Some r) ≡ model.with_whole k limits ch row m
  whole_packed ch row m r e = rw e refl

  pub whole_host : (ch : model.Chart M C) (row : model.Row M C) (m : M) → model.peer_over k limits ch row m ≡ None → model.with_host k limits (model.with_frost k limits ch row m) row ≡ model.with_whole k limits ch row m
  whole_host ch row m e = rw e refl
