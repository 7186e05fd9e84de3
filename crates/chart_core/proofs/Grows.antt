-- A core stays sound as rows and tasks come and tasks are done.
use Rattle.std.specs.Prelude.{◌≡◌, ℕ, ◌+◌, ◌<◌, ◌≤◌, ◌++◌, ◌&&◌, Bool, true, false, Option, Some, None, List, [], ◌∷◌, length, map, All, MatchOption, slice_get, slice_set, slice_index_or}
use Rattle.std.proofs.Common.{refl, ap, sym, ◌∙◌, arith, zero, suc, length-append}
use Rattle.std.proofs.lemmas.List.{map-append, length-map, length-set}
use Rattle.chart_model.specs.Chart as model
use Rattle.chart_core.specs.declared.Row.{Row}
use Rattle.chart_core.specs.declared.RowId.{RowId}
use Rattle.chart_core.specs.declared.history.TaskRow.{TaskRow}
use Rattle.chart_core.specs.declared.history.Entry.{Entry}
use Rattle.chart_core.specs.View.{AreDaughters, list_of, row_of, rows_of, into_of, task_of, number_of}
use Rattle.chart_core.specs.Grammar.{Keys}
use Rattle.chart_core.specs.Sound.{left_of, Lists, is_host, is_partial_kind, SoundOf}

pub all_over : {A : Type 0} (P Q : A → Type 0) (xs : List A) → ((x : A) → P x → Q x) → All P xs → All Q xs
all_over P Q xs go h = λ k d l. go (slice_index_or xs k d) (h k d l)

pub all_snoc : {A : Type 0} (P : A → Type 0) (xs : List A) (x : A) → All P xs → P x → All P (xs ++ x ∷ [])
all_snoc P [] x h p = only P x p
  where
    only : {A : Type 0} (P : A → Type 0) (x : A) → P x → All P (x ∷ [])
    only P x p zero d l = p
    only P x p (suc k) d l = absurd (omega arith)
all_snoc P (y ∷ xs) x h p = next P y (xs ++ x ∷ []) (h 0 y (omega arith)) (all_snoc P xs x (λ k d l. h (suc k) d (omega arith)) p)
  where
    next : {A : Type 0} (P : A → Type 0) (y : A) (ys : List A) → P y → All P ys → All P (y ∷ ys)
    next P y ys p h zero d l = p
    next P y ys p h (suc k) d l = h k d (omega arith)

left_append : (xs ys : List (Option ℕ)) → left_of (xs ++ ys) ≡ left_of xs + left_of ys
left_append [] ys = omega arith
left_append (None ∷ xs) ys = omega (arith, left_append xs ys)
left_append (Some n ∷ xs) ys = left_append xs ys

left_fresh : (found : List TaskRow) → All (λ t. t.done ≡ None) found → left_of (map (λ (t : TaskRow). t.done) found) ≡ length found
left_fresh [] h = refl
left_fresh (t ∷ found) h =
    let e : t.done ≡ None = h 0 t (omega arith) in
    ap (λ o. left_of (o ∷ map (λ (t : TaskRow). t.done) found)) e ∙ (let r = left_fresh found (λ k d l. h (suc k) d (omega arith)) in omega (arith, r))

pub left_more : (tasks found : List TaskRow) → All (λ t. t.done ≡ None) found → left_of (map (λ (t : TaskRow). t.done) (tasks ++ found)) ≡ left_of (map (λ (t : TaskRow). t.done) tasks) + length found
left_more tasks found h =
    ap left_of (map-append (λ (t : TaskRow). t.done) tasks found) ∙ left_append (map (λ (t : TaskRow). t.done) tasks) (map (λ (t : TaskRow). t.done) found) ∙ ap (λ n. left_of (map (λ (t : TaskRow). t.done) tasks) + n) (left_fresh found h)

in_more : (n m : ℕ) (ds : List ℕ) → n ≤ m → All (λ d. d < n) ds → All (λ d. d < m) ds
in_more n m ds l h = λ k d b. let z = h k d b in omega (arith, z)

entry_more : (n m : ℕ) (o : Option RowId) → n ≤ m → MatchOption o (Unit {0}) (λ id. id.0 < n) → MatchOption o (Unit {0}) (λ id. id.0 < m)
entry_more n m None l h = h
entry_more n m (Some id) l h = omega (arith, h)

module _ {X T C W B : Type 0} (keys : Keys C) where
  -- one more row, with more tasks
  pub sound_row : (rows : List (Row X T C W B)) (tasks : List TaskRow) (history : List Entry) (capacity made : ℕ) (a b c : List (List ℕ)) → SoundOf keys rows tasks history capacity made a b c → (w : Row X T C W B) → AreDaughters w.daughters → All (λ d. d < length rows) (list_of w.daughters) → (found : List TaskRow) → All (λ t. t.done ≡ None) found → (bigger next_made : ℕ) → length tasks + length found ≤ bigger → next_made ≤ length rows + 1 → (next_a next_b next_c : List (List ℕ)) → Lists is_host (λ row. keys.cell row.cover) (rows ++ w ∷ []) next_a → Lists is_host (λ row. keys.begins row.cover) (rows ++ w ∷ []) next_b → Lists (λ row. is_partial_kind row.kind) (λ row. keys.ends row.cover) (rows ++ w ∷ []) next_c → SoundOf keys (rows ++ w ∷ []) (tasks ++ found) history bigger next_made next_a next_b next_c
  sound_row rows tasks history capacity made a b c s w ds range found fresh bigger next_made fits few next_a next_b next_c la lb lc =
      let count : length (rows ++ w ∷ []) ≡ length rows + 1 = length-append rows (w ∷ []) in
      let tasks_count : length (tasks ++ found) ≡ length tasks + length found = length-append tasks found in
      let more_rows : length rows ≤ length (rows ++ w ∷ []) = omega (arith, count) in
      record {
        room = omega (arith, tasks_count, fits);
        counted = omega (arith, s.counted, left_more tasks found fresh, tasks_count);
        made_few = omega (arith, few, count);
        daughters = all_snoc (λ row. AreDaughters row.daughters) rows w s.daughters ds;
        in_range = all_snoc (λ row. All (λ d. d < length (rows ++ w ∷ [])) (list_of row.daughters)) rows w
            (all_over (λ row. All (λ d. d < length rows) (list_of row.daughters)) (λ row. All (λ d. d < length (rows ++ w ∷ [])) (list_of row.daughters)) rows (λ row h. in_more (length rows) (length (rows ++ w ∷ [])) (list_of row.daughters) more_rows h) s.in_range)
            (in_more (length rows) (length (rows ++ w ∷ [])) (list_of w.daughters) more_rows range);
        entries = all_over (λ e. MatchOption e.row (Unit {0}) (λ id. id.0 < length rows)) (λ e. MatchOption e.row (Unit {0}) (λ id. id.0 < length (rows ++ w ∷ []))) history (λ e h. entry_more (length rows) (length (rows ++ w ∷ [])) e.row more_rows h) s.entries;
        cells = la;
        begins = lb;
        ends = lc;
      }

  -- the same, with more room
  pub sound_like : (rows rows2 : List (Row X T C W B)) (tasks tasks2 : List TaskRow) (history history2 : List Entry) (capacity bigger made : ℕ) (a b c c2 : List (List ℕ)) → SoundOf keys rows tasks history capacity made a b c → rows2 ≡ rows → tasks2 ≡ tasks → history2 ≡ history → capacity ≤ bigger → c2 ≡ c → SoundOf keys rows2 tasks2 history2 bigger made a b c2
  sound_like rows rows2 tasks tasks2 history history2 capacity bigger made a b c c2 s e f g l h =
      rw (e, f, g, h) (record { room = omega (arith, s.room); counted = s.counted; made_few = s.made_few; daughters = s.daughters; in_range = s.in_range; entries = s.entries; cells = s.cells; begins = s.begins; ends = s.ends })

set_left : (tasks : List TaskRow) (t place : ℕ) (was : TaskRow) → slice_get tasks t ≡ Some was → was.done ≡ None → left_of (map (λ (t : TaskRow). t.done) (slice_set tasks t (record was { done = Some place }))) + 1 ≡ left_of (map (λ (t : TaskRow). t.done) tasks)
set_left [] t place was e h = absurd (cc)
set_left (x ∷ tasks) zero place was e h = let z : x ≡ was = cc in sym (ap (λ (y : TaskRow). left_of (y.done ∷ map (λ (t : TaskRow). t.done) tasks)) z ∙ ap (λ o. left_of (o ∷ map (λ (t : TaskRow). t.done) tasks)) h)
set_left (x ∷ tasks) (suc t) place was e h = by_done x.done (set_left tasks t place was e h)
  where
    by_done : (o : Option ℕ) → left_of (map (λ (t : TaskRow). t.done) (slice_set tasks t (record was { done = Some place }))) + 1 ≡ left_of (map (λ (t : TaskRow). t.done) tasks) → left_of (o ∷ map (λ (t : TaskRow). t.done) (slice_set tasks t (record was { done = Some place }))) + 1 ≡ left_of (o ∷ map (λ (t : TaskRow). t.done) tasks)
    by_done None r = omega (arith, r)
    by_done (Some n) r = r

module _ {X T C W B : Type 0} (keys : Keys C) where
  -- a task is done
  pub sound_mark : (rows : List (Row X T C W B)) (tasks : List TaskRow) (history : List Entry) (capacity made : ℕ) (a b c : List (List ℕ)) → SoundOf keys rows tasks history capacity made a b c → (t place : ℕ) (was : TaskRow) → slice_get tasks t ≡ Some was → was.done ≡ None → (e : Entry) → MatchOption e.row (Unit {0}) (λ id. id.0 < length rows) → SoundOf keys rows (slice_set tasks t (record was { done = Some place })) (history ++ e ∷ []) capacity made a b c
  sound_mark rows tasks history capacity made a b c s t place was at pending e inside =
      record {
        room = omega (arith, s.room, length-set tasks t (record was { done = Some place }));
        counted = omega (arith, s.counted, set_left tasks t place was at pending, length-append history (e ∷ []), length-set tasks t (record was { done = Some place }));
        made_few = s.made_few;
        daughters = s.daughters;
        in_range = s.in_range;
        entries = all_snoc (λ e. MatchOption e.row (Unit {0}) (λ id. id.0 < length rows)) history e s.entries inside;
        cells = s.cells;
        begins = s.begins;
        ends = s.ends;
      }

-- a task that is pending leaves room for its entry
pub left_pending : (tasks : List TaskRow) (t : ℕ) (was : TaskRow) → slice_get tasks t ≡ Some was → was.done ≡ None → 0 < left_of (map (λ (t : TaskRow). t.done) tasks)
left_pending tasks t was e h = omega (arith, set_left tasks t 0 was e h)

pub fresh_done : (found : List TaskRow) → All (λ t. t.done ≡ None) found → map (λ (t : TaskRow). t.done) found ≡ map (λ _. None) (map task_of found)
fresh_done [] h = refl
fresh_done (t ∷ found) h =
    let e : t.done ≡ None = h 0 t (omega arith) in
    rw (e, fresh_done found (λ k d l. h (suc k) d (omega arith))) refl

set_tasks : (tasks : List TaskRow) (t place : ℕ) (was : TaskRow) → slice_get tasks t ≡ Some was → map task_of (slice_set tasks t (record was { done = Some place })) ≡ map task_of tasks
set_tasks [] t place was e = refl
set_tasks (x ∷ tasks) zero place was e = let z : x ≡ was = cc in ap (λ (y : TaskRow). task_of y ∷ map task_of tasks) (sym z)
set_tasks (x ∷ tasks) (suc t) place was e = ap (λ xs. task_of x ∷ xs) (set_tasks tasks t place was e)

set_done : (tasks : List TaskRow) (t place : ℕ) (was : TaskRow) → map (λ (t : TaskRow). t.done) (slice_set tasks t (record was { done = Some place })) ≡ slice_set (map (λ (t : TaskRow). t.done) tasks) t (Some place)
set_done [] t place was = refl
set_done (x ∷ tasks) zero place was = refl
set_done (x ∷ tasks) (suc t) place was = ap (λ xs. x.done ∷ xs) (set_done tasks t place was)

module _ {X T C W B M : Type 0} (meaning : T → M) where
  abbrev pub chart_from : List (Row X T C W B) → List TaskRow → ℕ → ℕ → model.Chart M C
  chart_from rows tasks made places = record { rows = rows_of meaning rows; into = into_of rows; tasks = map task_of tasks; done = map (λ t. t.done) tasks; made = made; places = places }

  pub chart_pushed : (rows : List (Row X T C W B)) (tasks found : List TaskRow) (w : Row X T C W B) (made places : ℕ) (added : List model.Task) → All (λ t. t.done ≡ None) found → map task_of found ≡ added → chart_from (rows ++ w ∷ []) (tasks ++ found) made places ≡ model.with_tasks (model.with_row (chart_from rows tasks made places) (row_of meaning w) (number_of w.into)) added
  chart_pushed rows tasks found w made places added fresh e =
      rw (map-append (row_of meaning) rows (w ∷ []), map-append (λ (r : Row X T C W B). number_of r.into) rows (w ∷ []), map-append task_of tasks found, map-append (λ (t : TaskRow). t.done) tasks found, fresh_done found fresh, e) refl

  pub chart_same : (rows rows2 : List (Row X T C W B)) (tasks tasks2 : List TaskRow) (made places places2 : ℕ) → rows ≡ rows2 → tasks ≡ tasks2 → places ≡ places2 → chart_from rows tasks made places ≡ chart_from rows2 tasks2 made places2
  chart_same rows rows2 tasks tasks2 made places places2 e f h = rw (e, f, h) refl

  pub rows_count : (rows : List (Row X T C W B)) → length (rows_of meaning rows) ≡ length rows
  rows_count rows = length-map rows (row_of meaning)

  pub chart_marked : (rows : List (Row X T C W B)) (tasks : List TaskRow) (made places : ℕ) (t : ℕ) (was : TaskRow) → slice_get tasks t ≡ Some was → chart_from rows (slice_set tasks t (record was { done = Some places })) made (places + 1) ≡ model.with_done (chart_from rows tasks made places) t
  chart_marked rows tasks made places t was e = rw (set_tasks tasks t places was e, set_done tasks t places was) refl

pub no_fresh : All (λ (t : TaskRow). t.done ≡ None) []
no_fresh = λ k d l. absurd (omega arith)

pub and_false : (b : Bool) → b && false ≡ false
and_false true = refl
and_false false = refl
