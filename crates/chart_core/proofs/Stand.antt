-- How a task stands, from what a core keeps of it.
use Rattle.std.specs.Prelude.{◌≡◌, ℕ, Option, Some, None, List, [], ◌∷◌, map, slice_get}
use Rattle.std.proofs.Common.{refl, ap, sym, ◌∙◌, subst, zero, suc}
use Rattle.chart_model.specs.Calculus.{Laws}
use Rattle.chart_model.specs.Chart as model
use Rattle.chart_model.specs.At.{from_get, to_get}
use Rattle.chart_core.specs.declared.chart.Core.{Core}
use Rattle.chart_core.specs.declared.RowId.{RowId}
use Rattle.chart_core.specs.declared.history.TaskRow.{TaskRow}
use Rattle.chart_core.specs.Grammar.{Grammar}
use Rattle.chart_core.specs.Kept.{IsCore}
use Rattle.chart_core.specs.View.{rows_of, into_of, task_of, number_of}
use Rattle.chart_core.specs.CoreView.{chart_of}
use Rattle.chart_core.specs.Steps.{IsOpen, IsSkipped}
use Rattle.chart_core.specs.Calls.{IsOpenWith}
use Rattle.chart_core.proofs.Found.{at_mapped}
use Rattle.chart_core.proofs.Facts.{proper_new}

pub get_map : {A B : Type 0} (f : A → B) (xs : List A) (i : ℕ) (x : A) → slice_get xs i ≡ Some x → slice_get (map f xs) i ≡ Some (f x)
get_map f [] i x e = absurd (cc)
get_map f (y ∷ xs) zero x e = let z : y ≡ x = cc in ap (λ v. Some (f v)) z
get_map f (y ∷ xs) (suc i) x e = get_map f xs i x e

module _ {X T C W B M : Type 0} (g : Grammar T M C) (core : Core X T C W B) (t : ℕ) (info : TaskRow) (at : slice_get core.tasks.items t ≡ Some info) (pending : info.done ≡ None) (ds : List ℕ) (same : ds ≡ model.daughters (rows_of g.meaning core.rows.items) (task_of info)) (o : Option RowId) (first : number_of o ≡ model.first_frosted (into_of core.rows.items) ds) where
  pub stand_with : o ≡ None → IsOpenWith g core t info.rule ds
  stand_with e = record { live = record { task = task_of info; made = get_map task_of core.tasks.items t info at; pending = get_map (λ (x : TaskRow). x.done) core.tasks.items t info at ∙ ap Some pending; live = ap (model.first_frosted (into_of core.rows.items)) (sym same) ∙ sym first ∙ ap number_of e }; rule_is = refl; daughters = same }

  pub stand_skipped : (row : RowId) → o ≡ Some row → IsSkipped (chart_of g.meaning core) t row.0
  stand_skipped row e = record { task = task_of info; made = get_map task_of core.tasks.items t info at; pending = get_map (λ (x : TaskRow). x.done) core.tasks.items t info at ∙ ap Some pending; frosted = ap (model.first_frosted (into_of core.rows.items)) (sym same) ∙ sym first ∙ ap number_of e }

module _ {X T C W B M : Type 0} (g : Grammar T M C) (laws : Laws g.calculus) (core : Core X T C W B) (is : IsCore g core) (t : ℕ) (live : IsOpen (chart_of g.meaning core) t) where
  -- the cover of a mother for an open task may stand in a chart
  pub proper_open : (c : C) → g.calculus.covers live.task.rule (model.covers_at (rows_of g.meaning core.rows.items) (model.daughters (rows_of g.meaning core.rows.items) live.task)) ≡ Some c → g.calculus.proper c
  proper_open c e =
      let w = at_mapped task_of core.tasks.items t live.task (from_get (map task_of core.tasks.items) t live.task live.made) in
      proper_new g laws core is t w.0 c (to_get w.1) (subst (λ (u : model.Task). g.calculus.covers u.rule (model.covers_at (rows_of g.meaning core.rows.items) (model.daughters (rows_of g.meaning core.rows.items) u)) ≡ Some c) (sym w.2) e)

module _ {M C : Type 0} where
  abbrev pub made_row : ℕ → List ℕ → ℕ → C → M → model.Row M C
  made_row rule ds level c m = record { kind = model.OfWhole rule; daughters = ds; cover = c; level = level; shape = Some m }

  pub new_row : (rows : List (model.Row M C)) (rule r : ℕ) (ds es : List ℕ) (level : ℕ) (c : C) (m : M) → rule ≡ r → ds ≡ es → level ≡ model.level_above (model.levels_at rows ds) → made_row rule ds level c m ≡ made_row r es (model.level_above (model.levels_at rows es)) c m
  new_row rows rule r ds es level c m e f h =
      ap (λ q. made_row q ds level c m) e
      ∙ ap (λ xs. made_row r xs level c m) f
      ∙ ap (λ l. made_row r es l c m) (h ∙ ap (λ ds. model.level_above (model.levels_at rows ds)) f)
