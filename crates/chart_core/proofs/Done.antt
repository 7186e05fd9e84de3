-- Where nothing is pending, the chart is complete.
use Rattle.std.specs.Prelude.{◌≡◌, ℕ, Option, Some, None, List, [], ◌∷◌, map}
use Rattle.std.proofs.Common.{refl, sym, subst, suc, zero, arith}
use Rattle.chart_model.specs.Calculus.{Laws, Agreement}
use Rattle.chart_model.specs.Chart as model
use Rattle.chart_model.specs.At.{At, here, there}
use Rattle.chart_model.specs.Finished.{NothingPending, IsComplete}
use Rattle.chart_model.specs.Grown.{HoldsTrees}
use Rattle.chart_model.proofs.Whole.{complete_run, forest_run}
use Rattle.chart_core.specs.declared.history.TaskRow.{TaskRow}
use Rattle.chart_core.specs.declared.chart.Core.{Core}
use Rattle.chart_core.specs.View.{task_of}
use Rattle.chart_core.specs.CoreView.{chart_of, history_of, leaves_of, limits_of}
use Rattle.chart_core.specs.Grammar.{Grammar}
use Rattle.chart_core.specs.Sound.{left_of}
use Rattle.chart_core.specs.Kept.{IsCore, pending_of}

done_by : (o : Option ℕ) (rest : List (Option ℕ)) → left_of (o ∷ rest) ≡ 0 → ((p : ℕ) × (o ≡ Some p)) × (left_of rest ≡ 0)
done_by None rest h = absurd (omega arith)
done_by (Some p) rest h = ((p, refl), h)

place_of : (tasks : List TaskRow) → left_of (map (λ (t : TaskRow). t.done) tasks) ≡ 0 → (i : ℕ) (task : model.Task) → At (map task_of tasks) i task → (p : ℕ) × At (map (λ (t : TaskRow). t.done) tasks) i (Some p)
place_of [] h i task a = elim a [ ]
place_of (t ∷ tasks) h zero task (here) = let q = (done_by t.done (map (λ (t : TaskRow). t.done) tasks) h).0 in (q.0, subst (λ o. At (map (λ (t : TaskRow). t.done) (t ∷ tasks)) zero o) q.1 here)
place_of (t ∷ tasks) h (suc i) task (there a) = let r = place_of tasks (done_by t.done (map (λ (t : TaskRow). t.done) tasks) h).1 i task a in (r.0, there r.1)

module _ {X T C W B M : Type 0} (g : Grammar T M C) (laws : Laws g.calculus) (core : Core X T C W B) (is : IsCore g core) (done : pending_of core ≡ 0) where
  pub nothing : NothingPending (chart_of g.meaning core)
  nothing = λ t task a. place_of core.tasks.items done t task a

  pub core_complete : IsComplete g.calculus (limits_of core) (leaves_of g.meaning core) (chart_of g.meaning core)
  core_complete = subst (IsComplete g.calculus (limits_of core) (leaves_of g.meaning core)) (sym is.state) (complete_run g.calculus (limits_of core) (leaves_of g.meaning core) laws (history_of g.meaning core) is.run (subst NothingPending is.state nothing))

  pub core_forest : {F : Type 0} (full : ℕ → List F → F → Type 0) (agrees : M → F → Type 0) → Agreement g.calculus.over g.calculus.applies g.calculus.mother full agrees → HoldsTrees g.calculus full agrees (limits_of core) (leaves_of g.meaning core) (chart_of g.meaning core)
  core_forest full agrees agree = subst (HoldsTrees g.calculus full agrees (limits_of core) (leaves_of g.meaning core)) (sym is.state) (forest_run g.calculus (limits_of core) (leaves_of g.meaning core) laws full agrees agree (history_of g.meaning core) is.run (subst NothingPending is.state nothing))
