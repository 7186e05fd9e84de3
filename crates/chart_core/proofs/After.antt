-- The core after one more entry.
use Rattle.std.specs.Prelude.{◌≡◌, ℕ, ◌<◌, ◌≤◌, ◌++◌, Bool, true, false, not, is_some, Option, Some, None, List, [], ◌∷◌, length, map, slice_get, All, MatchOption, vec_capacity}
use Rattle.std.proofs.Common.{refl, ap, sym, ◌∙◌, subst, arith, zero, suc, append-nil}
use Rattle.std.proofs.lemmas.List.{map-append, length-map}
use Rattle.chart_model.specs.Calculus.{Calculus}
use Rattle.chart_model.specs.Tuples.{on_list}
use Rattle.chart_model.specs.Chart as model
use Rattle.chart_model.specs.Below.{IsRun, Follows}
use Rattle.chart_core.specs.declared.chart.Core.{Core}
use Rattle.chart_core.specs.declared.RowId.{RowId}
use Rattle.chart_core.specs.declared.Caller.{Caller}
use Rattle.chart_core.specs.declared.history.Entry.{Entry}
use Rattle.chart_core.specs.declared.history.TaskRow.{TaskRow}
use Rattle.chart_core.specs.Grammar.{Grammar}
use Rattle.chart_core.specs.Kept.{IsCore}
use Rattle.chart_core.specs.View.{Belongs, rows_of, row_of, number_of}
use Rattle.chart_core.specs.CoreView.{chart_of, leaves_of, leaves_in, leaf_by, history_of, limits_of, entry_of, outcome_in, outcome_by, outcome_at, caller_of}
use Rattle.chart_core.specs.Sound.{IsSound, KeepsFrame}
use Rattle.chart_core.specs.Steps.{IsOpen, IsRightAt}
use Rattle.chart_core.specs.Calls.{ChangesBy}
use Rattle.chart_core.proofs.Commute.{step_open, adds_open}

module _ {M C : Type 0} (k : Calculus M C) (limits : model.Limits) where
  replayed_more : (ch : model.Chart M C) (es : List (model.Entry M C)) (e : model.Entry M C) → model.replayed k limits ch (es ++ e ∷ []) ≡ model.step k limits (model.replayed k limits ch es) e
  replayed_more ch [] e = refl
  replayed_more ch (f ∷ es) e = replayed_more (model.step k limits ch f) es e

  legal_more : (ch : model.Chart M C) (es : List (model.Entry M C)) (e : model.Entry M C) → IsRun k limits ch es → Follows k limits (model.replayed k limits ch es) e → IsRun k limits ch (es ++ e ∷ [])
  legal_more ch [] e legal adds = (adds, tt)
  legal_more ch (f ∷ es) e legal adds = (legal.0, legal_more (model.step k limits ch f) es e legal.1 adds)

module _ {A : Type 0} where
  get_front : (xs ys : List A) (i : ℕ) → i < length xs → slice_get (xs ++ ys) i ≡ slice_get xs i
  get_front [] ys i l = absurd (omega arith)
  get_front (x ∷ xs) ys zero l = refl
  get_front (x ∷ xs) ys (suc i) l = get_front xs ys i (omega arith)

  get_last : (xs : List A) (y : A) → slice_get (xs ++ y ∷ []) (length xs) ≡ Some y
  get_last [] y = refl
  get_last (x ∷ xs) y = get_last xs y

  get_below : (xs : List A) (i : ℕ) (x : A) → slice_get xs i ≡ Some x → i < length xs
  get_below [] i x e = absurd (cc)
  get_below (y ∷ xs) zero x e = omega arith
  get_below (y ∷ xs) (suc i) x e = omega (arith, get_below xs i x e)

pub never : (b : Bool) → b ≡ true → b ≡ false → ⊥
never true p q = cc
never false p q = cc

pub none_by : {A : Type 0} (o : Option A) (b : Bool) → is_some o ≡ not b → b ≡ true → o ≡ None
none_by None b e t = refl
none_by (Some x) true e t = absurd (cc)
none_by (Some x) false e t = absurd (cc)

pub some_by : {A : Type 0} (o : Option A) (b : Bool) → is_some o ≡ not b → b ≡ false → o ≡ None → ⊥
some_by None true e f n = cc
some_by None false e f n = cc
some_by (Some x) b e f n = cc

-- a task that is pending may be marked
pub mark_ready : (tasks : List TaskRow) (t : ℕ) → slice_get (map (λ (x : TaskRow). x.done) tasks) t ≡ Some None → (t < length tasks) × ((x : TaskRow) → slice_get tasks t ≡ Some x → x.done ≡ None)
mark_ready [] t e = absurd (cc)
mark_ready (y ∷ tasks) zero e = (omega arith, λ x f. (let z : y ≡ x = cc in let w : y.done ≡ None = cc in subst (λ (v : TaskRow). v.done ≡ None) z w))
mark_ready (y ∷ tasks) (suc t) e = let r = mark_ready tasks t e in (omega (arith, r.0), r.1)

module _ {M C : Type 0} (k : Calculus M C) (limits : model.Limits) where
  whole_done : (ch : model.Chart M C) (row : model.Row M C) (m : M) (o : Option ℕ) → model.peer_over k limits ch row m ≡ o → (more : List (Option ℕ)) × ((model.with_whole k limits ch row m).done ≡ ch.done ++ more)
  whole_done ch row m None e = (map (λ _. None) (model.tasks_of_host k limits ch.rows (model.frosted k (model.has_peer k (k.over m) row.cover row.level) (length ch.rows) ch.rows ch.into) (length ch.rows) row.cover row.level), rw e refl)
  whole_done ch row m (Some r) e = ([], rw e (sym (append-nil ch.done)))

  -- a task that was open is pending after a row came
  pub still_pending : (ch : model.Chart M C) (row : model.Row M C) (m : M) (t : ℕ) → slice_get ch.done t ≡ Some None → slice_get (model.with_whole k limits ch row m).done t ≡ Some None
  still_pending ch row m t e =
      let w = whole_done ch row m (model.peer_over k limits ch row m) refl in
      ap (λ d. slice_get d t) w.1 ∙ get_front ch.done w.0 t (get_below ch.done t None e) ∙ e

  pub grown_partial : (ch : model.Chart M C) (rule : ℕ) (ds : List ℕ) (c : C) (task : model.Task) → rule ≡ task.rule → ds ≡ model.daughters ch.rows task → model.with_partial k limits ch (record { kind = model.OfPartial rule; daughters = ds; cover = c; level = 0; shape = None }) rule ≡ model.with_outcome k limits ch task (model.Fits c)
  grown_partial ch rule ds c task e f = rw (e, f) refl

module _ {M C : Type 0} where
  entry_kept : (rows more : List (model.Row M C)) (e : Entry) (o : Option RowId) → e.row ≡ o → MatchOption o (Unit {0}) (λ id. id.0 < length rows) → entry_of (rows ++ more) e ≡ entry_of rows e
  entry_kept rows more e None q h = ap (λ o. record { task = e.task; outcome = outcome_in (rows ++ more) (number_of o); by = caller_of e.by }) q ∙ sym (ap (λ o. record { task = e.task; outcome = outcome_in rows (number_of o); by = caller_of e.by }) q)
  entry_kept rows more e (Some id) q h =
      ap (λ o. record { task = e.task; outcome = outcome_in (rows ++ more) (number_of o); by = caller_of e.by }) q
      ∙ ap (λ r. record { task = e.task; outcome = outcome_at r; by = caller_of e.by }) (get_front rows more id.0 h)
      ∙ sym (ap (λ o. record { task = e.task; outcome = outcome_in rows (number_of o); by = caller_of e.by }) q)

  history_kept : (rows more : List (model.Row M C)) (history : List Entry) (n : ℕ) → n ≡ length rows → All (λ e. MatchOption e.row (Unit {0}) (λ id. id.0 < n)) history → map (entry_of (rows ++ more)) history ≡ map (entry_of rows) history
  history_kept rows more [] n same h = refl
  history_kept rows more (e ∷ history) n same h =
      let first = entry_kept rows more e e.row refl (subst (λ i. MatchOption e.row (Unit {0}) (λ (id : RowId). id.0 < i)) same (h 0 e (omega arith))) in
      let rest = history_kept rows more history n same (λ i d l. h (suc i) d (omega arith)) in
      cc

  leaves_kept : (rows : List (model.Row M C)) (w : model.Row M C) → leaf_by w w.kind w.shape ≡ None → leaves_in (rows ++ w ∷ []) ≡ leaves_in rows
  leaves_kept [] w e = ap (λ o. on_list o []) e
  leaves_kept (r ∷ rows) w e = ap (on_list (leaf_by r r.kind r.shape)) (leaves_kept rows w e)

module _ {X T C W B M : Type 0} (g : Grammar T M C) where
  same_limits : (old new : Core X T C W B) → KeepsFrame old new → limits_of new ≡ limits_of old
  same_limits old new frame = let e = frame.edges in let u = frame.unary in cc

  -- the core after one more entry is a core
  pub core_after : (old new : Core X T C W B) → IsCore g old → (e : model.Entry M C) → Follows g.calculus (limits_of old) (chart_of g.meaning old) e → chart_of g.meaning new ≡ model.step g.calculus (limits_of old) (chart_of g.meaning old) e → history_of g.meaning new ≡ history_of g.meaning old ++ e ∷ [] → leaves_of g.meaning new ≡ leaves_of g.meaning old → KeepsFrame old new → All (Belongs g.calculus g.belongs) new.rows.items → IsSound g.keys new → IsCore g new
  core_after old new is e adds chart history leaves frame belongs sound =
      let k = g.calculus in
      let l = limits_of old in
      let ls = leaves_of g.meaning old in
      let hs = history_of g.meaning old in
      let limits = same_limits old new frame in
      let start = model.opened k l (model.empty k l) ls in
      let moved : chart_of g.meaning new ≡ model.Replay k l ls (hs ++ e ∷ []) = chart ∙ ap (λ c. model.step k l c e) is.state ∙ sym (replayed_more k l start hs e) in
      record {
        state = moved ∙ ap (λ l. model.Replay k l ls (hs ++ e ∷ [])) (sym limits) ∙ ap (λ ls. model.Replay k (limits_of new) ls (hs ++ e ∷ [])) (sym leaves) ∙ ap (model.Replay k (limits_of new) (leaves_of g.meaning new)) (sym history);
        run =
            subst (IsRun k (limits_of new) (model.opened k (limits_of new) (model.empty k (limits_of new)) (leaves_of g.meaning new))) (sym history)
            (subst (λ ls. IsRun k (limits_of new) (model.opened k (limits_of new) (model.empty k (limits_of new)) ls) (hs ++ e ∷ [])) (sym leaves)
            (subst (λ l. IsRun k l (model.opened k l (model.empty k l) ls) (hs ++ e ∷ [])) (sym limits)
            (legal_more k l start hs e is.run (subst (λ c. Follows k l c e) is.state adds))));
        belongs_all = belongs;
        sound = sound;
        narrow = subst (λ u. u ≤ 32) (sym frame.unary) is.narrow;
        room_for_leaves = subst (λ ls. length ls ≤ vec_capacity new.spare) (sym leaves) (subst (λ v. length ls ≤ vec_capacity v) (sym frame.spare) is.room_for_leaves);
        no_leaves_yet = ap (λ v. v.items) frame.spare ∙ is.no_leaves_yet;
      }

  -- what a step without a row leaves behind
  pub record Marked (old new : Core X T C W B) (t : ℕ) (by : Caller) : Type 0 where
    pub chart : chart_of g.meaning new ≡ model.with_done (chart_of g.meaning old) t
    pub history : new.history.items ≡ old.history.items ++ record { task = t; row = None; by = by } ∷ []
    pub rows : new.rows.items ≡ old.rows.items
    pub frame : KeepsFrame old new
    pub sound : IsSound g.keys new

  marked_history : (old new : Core X T C W B) (t : ℕ) (by : Caller) → Marked old new t by → history_of g.meaning new ≡ history_of g.meaning old ++ record { task = t; outcome = model.Fails; by = caller_of by } ∷ []
  marked_history old new t by m =
      ap (λ rs. map (entry_of (rows_of g.meaning rs)) new.history.items) m.rows
      ∙ ap (map (entry_of (rows_of g.meaning old.rows.items))) m.history
      ∙ map-append (entry_of (rows_of g.meaning old.rows.items)) old.history.items (record { task = t; row = None; by = by } ∷ [])

  marked_leaves : (old new : Core X T C W B) (t : ℕ) (by : Caller) → Marked old new t by → leaves_of g.meaning new ≡ leaves_of g.meaning old
  marked_leaves old new t by m = ap (λ rs. leaves_in (rows_of g.meaning rs)) m.rows

  pub marked_core : (old new : Core X T C W B) (t : ℕ) (by : Caller) → IsCore g old → Marked old new t by → Follows g.calculus (limits_of old) (chart_of g.meaning old) (record { task = t; outcome = model.Fails; by = caller_of by }) → model.step g.calculus (limits_of old) (chart_of g.meaning old) (record { task = t; outcome = model.Fails; by = caller_of by }) ≡ model.with_done (chart_of g.meaning old) t → IsCore g new
  marked_core old new t by is m adds step =
      core_after old new is (record { task = t; outcome = model.Fails; by = caller_of by }) adds (m.chart ∙ sym step) (marked_history old new t by m) (marked_leaves old new t by m) m.frame
      (subst (All (Belongs g.calculus g.belongs)) (sym m.rows) is.belongs_all) m.sound

  -- a row was pushed, and then the task marked
  pub record Placed (old new : Core X T C W B) (t : ℕ) (by : Caller) (w : model.Row M C) (grown : model.Chart M C) : Type 0 where
    pub chart : chart_of g.meaning new ≡ model.with_done grown t
    pub rows : grown.rows ≡ rows_of g.meaning old.rows.items ++ w ∷ []
    pub history : new.history.items ≡ old.history.items ++ record { task = t; row = Some (record { 0 = length old.rows.items }); by = by } ∷ []
    pub frame : KeepsFrame old new
    pub belongs : All (Belongs g.calculus g.belongs) new.rows.items
    pub sound : IsSound g.keys new

  placed_rows : (old new : Core X T C W B) (t : ℕ) (by : Caller) (w : model.Row M C) (grown : model.Chart M C) → Placed old new t by w grown → rows_of g.meaning new.rows.items ≡ rows_of g.meaning old.rows.items ++ w ∷ []
  placed_rows old new t by w grown p = ap (λ (c : model.Chart M C). c.rows) p.chart ∙ p.rows

  placed_history : (old new : Core X T C W B) (t : ℕ) (by : Caller) (w : model.Row M C) (grown : model.Chart M C) (o : model.Outcome M C) → IsSound g.keys old → Placed old new t by w grown → outcome_by w w.kind w.shape ≡ o → history_of g.meaning new ≡ history_of g.meaning old ++ record { task = t; outcome = o; by = caller_of by } ∷ []
  placed_history old new t by w grown o s p gives =
      let rows = rows_of g.meaning old.rows.items in
      let n : length old.rows.items ≡ length rows = sym (length-map old.rows.items (row_of g.meaning)) in
      let e : Entry = record { task = t; row = Some (record { 0 = length old.rows.items }); by = by } in
      let last : entry_of (rows ++ w ∷ []) e ≡ record { task = t; outcome = o; by = caller_of by } =
      ap (λ r. record { task = t; outcome = outcome_at r; by = caller_of by }) (ap (slice_get (rows ++ w ∷ [])) n ∙ get_last rows w) ∙ ap (λ o. record { task = t; outcome = o; by = caller_of by }) gives in
      ap (λ rs. map (entry_of rs) new.history.items) (placed_rows old new t by w grown p)
      ∙ ap (map (entry_of (rows ++ w ∷ []))) p.history
      ∙ map-append (entry_of (rows ++ w ∷ [])) old.history.items (e ∷ [])
      ∙ ap (λ xs. xs ++ entry_of (rows ++ w ∷ []) e ∷ []) (history_kept rows (w ∷ []) old.history.items (length old.rows.items) n s.sound.entries)
      ∙ ap (λ x. map (entry_of rows) old.history.items ++ x ∷ []) last

  placed_leaves : (old new : Core X T C W B) (t : ℕ) (by : Caller) (w : model.Row M C) (grown : model.Chart M C) → Placed old new t by w grown → leaf_by w w.kind w.shape ≡ None → leaves_of g.meaning new ≡ leaves_of g.meaning old
  placed_leaves old new t by w grown p none = ap leaves_in (placed_rows old new t by w grown p) ∙ leaves_kept (rows_of g.meaning old.rows.items) w none

  pub placed_core : (old new : Core X T C W B) (t : ℕ) (by : Caller) (w : model.Row M C) (grown : model.Chart M C) (o : model.Outcome M C) → IsCore g old → Placed old new t by w grown → outcome_by w w.kind w.shape ≡ o → leaf_by w w.kind w.shape ≡ None → (live : IsOpen (chart_of g.meaning old) t) → grown ≡ model.with_outcome g.calculus (limits_of old) (chart_of g.meaning old) live.task o → IsRightAt g.calculus (limits_of old) (chart_of g.meaning old) t o → IsCore g new
  placed_core old new t by w grown o is p gives none live is_grown right =
      core_after old new is (record { task = t; outcome = o; by = caller_of by })
      (adds_open g.calculus (limits_of old) (chart_of g.meaning old) t o (caller_of by) live right)
      (p.chart ∙ ap (λ c. model.with_done c t) is_grown ∙ sym (step_open g.calculus (limits_of old) (chart_of g.meaning old) t o (caller_of by) live))
      (placed_history old new t by w grown o is.sound p gives) (placed_leaves old new t by w grown p none) p.frame p.belongs p.sound

  pub placed_change : (old new : Core X T C W B) (t : ℕ) (by : Caller) (w : model.Row M C) (grown : model.Chart M C) (o : model.Outcome M C) (place : ℕ) (row : RowId) (first end : Rattle.chart_core.specs.declared.TaskId.TaskId) → IsCore g old → Placed old new t by w grown → outcome_by w w.kind w.shape ≡ o → leaf_by w w.kind w.shape ≡ None → (live : IsOpen (chart_of g.meaning old) t) → grown ≡ model.with_outcome g.calculus (limits_of old) (chart_of g.meaning old) live.task o → ChangesBy g old t o by (Rattle.chart_core.specs.declared.Entered.TheVariants.Placed place row first end) new
  placed_change old new t by w grown o place row first end is p gives none live is_grown =
      record {
        chart = p.chart ∙ ap (λ c. model.with_done c t) is_grown ∙ sym (step_open g.calculus (limits_of old) (chart_of g.meaning old) t o (caller_of by) live);
        history = placed_history old new t by w grown o is.sound p gives;
        leaves = placed_leaves old new t by w grown p none;
        limits = same_limits old new p.frame;
      }

  pub marked_change : (old new : Core X T C W B) (t : ℕ) (by : Caller) → Marked old new t by → model.step g.calculus (limits_of old) (chart_of g.meaning old) (record { task = t; outcome = model.Fails; by = caller_of by }) ≡ model.with_done (chart_of g.meaning old) t → (history_of g.meaning new ≡ history_of g.meaning old ++ record { task = t; outcome = model.Fails; by = caller_of by } ∷ []) × (leaves_of g.meaning new ≡ leaves_of g.meaning old) × (limits_of new ≡ limits_of old)
  marked_change old new t by m step = (marked_history old new t by m, marked_leaves old new t by m, same_limits old new m.frame)

  pub frame_both : (old mid new : Core X T C W B) → KeepsFrame old mid → KeepsFrame mid new → KeepsFrame old new
  frame_both old mid new a b = record { edges = b.edges ∙ a.edges; unary = b.unary ∙ a.unary; spare = b.spare ∙ a.spare }
