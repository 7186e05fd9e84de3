-- What stands while a chart is made in order.
use Rattle.std.specs.Prelude.{◌≡◌, ℕ, ◌+◌, ◌≤◌, ◌⊎◌, Some, None}
use Rattle.chart_model.specs.Chart as model
use Rattle.chart_model.specs.At.{At}
use Rattle.chart_model.specs.Below.{Follows}
use Rattle.chart_model.specs.Ordered.{GivesMother, NotesAreTrue, AreTaken, AreEntered, AreNoted}
use Rattle.chart_core.specs.declared.chart.Core.{Core}
use Rattle.chart_core.specs.declared.Outcome.{Outcome}
use Rattle.chart_core.specs.declared.passing.Found.{Found}
use Rattle.chart_core.specs.declared.passing.Found.TheVariants as found
use Rattle.chart_core.specs.declared.passing.Pass.{Pass}
use Rattle.chart_core.specs.Grammar.{Grammar}
use Rattle.chart_core.specs.Kept.{IsCore, tasks_of}
use Rattle.chart_core.specs.CoreView.{chart_of, leaves_of, limits_of}
use Rattle.chart_core.specs.Outcomes.{outcome_seen, ShapeBelongs}
use Rattle.chart_core.specs.Steps.{IsDoneAt}
use Rattle.chart_core.specs.Calls.{IsRightIn}
use Rattle.chart_core.specs.Noted.{noted, IsAfter}

module _ {X T C W B M : Type 0} (g : Grammar T M C) where
  -- an outcome that is right for the task and makes no mother
  pub record IsHostless (core : Core X T C W B) (t : ℕ) (o : Outcome X T C W B) : Type 0 where
    pub right : IsRightIn g core t o
    pub belongs_too : ShapeBelongs g.belongs o
    pub hostless : (c : C) (m : M) → outcome_seen g.meaning o ≡ model.Makes c m → ⊥

  -- the task is pending, and gives a mother of this size and level
  pub record IsMother (core : Core X T C W B) (t size level : ℕ) : Type 0 where
    pub task : model.Task
    pub made : At (chart_of g.meaning core).tasks t task
    pub pending : At (chart_of g.meaning core).done t None
    pub mother : GivesMother g.calculus (chart_of g.meaning core) task size level

  abbrev pub IsFound : Core X T C W B → ℕ → Found X T C W B → Type 0
  IsFound core t (found.Done) = (place : ℕ) × IsDoneAt (chart_of g.meaning core) t place
  IsFound core t (found.Mother size level) = IsMother core t size level
  IsFound core t (found.Enters o) = IsHostless core t o

  -- the task was done, or an entry with this outcome or none was added
  pub data IsSettled (old : Core X T C W B) (t : ℕ) (o : model.Outcome M C) (new : Core X T C W B) : Type 0 where
    was_done : (place : ℕ) → At (chart_of g.meaning old).done t (Some place) → chart_of g.meaning new ≡ chart_of g.meaning old → IsSettled old t o new
    by_step : (e : model.Entry M C) → Follows g.calculus (limits_of old) (chart_of g.meaning old) e → e.task ≡ t → (e.outcome ≡ model.Fails) ⊎ (e.outcome ≡ o) → chart_of g.meaning new ≡ model.step g.calculus (limits_of old) (chart_of g.meaning old) e → IsSettled old t o new

  -- the leaves and the limits stay, and no task is lost
  pub record StaysOver (old new : Core X T C W B) : Type 0 where
    pub limits_same : limits_of new ≡ limits_of old
    pub leaves_same : leaves_of g.meaning new ≡ leaves_of g.meaning old
    pub more : tasks_of old ≤ tasks_of new

  -- the notes of the pass are true, and it has seen no more tasks than there are
  pub record IsSure (pass : Pass X T C W B) : Type 0 where
    pub core : IsCore g pass.core
    pub true_notes : NotesAreTrue g.calculus (chart_of g.meaning pass.core) (noted pass.notes)
    pub inside : pass.seen ≤ tasks_of pass.core

  -- the pass goes on over the same leaves, at the same size and level
  pub record GoesOn (old new : Pass X T C W B) : Type 0 where
    pub over : StaysOver old.core new.core
    pub size_same : new.size ≡ old.size
    pub level_same : new.level ≡ old.level

  -- new tasks are looked at, those with fewer than `short` daughters being past
  pub record IsTaking (pass : Pass X T C W B) (far short : ℕ) : Type 0 where
    pub after : IsAfter pass.notes pass.size (pass.level + 1)
    pub taken : AreTaken g.calculus (chart_of g.meaning pass.core) (noted pass.notes) pass.size (pass.level + 1) pass.seen far short

  -- the tasks of this size and level are entered
  pub record IsEntering (pass : Pass X T C W B) : Type 0 where
    pub after : IsAfter pass.notes pass.size pass.level
    pub entered : AreEntered g.calculus (chart_of g.meaning pass.core) (noted pass.notes) (λ t. noted pass.notes t pass.size pass.level) pass.size pass.level pass.seen

  -- each pending task is noted, for later
  pub record IsPassing (pass : Pass X T C W B) : Type 0 where
    pub sure : IsSure pass
    pub after : IsAfter pass.notes pass.size (pass.level + 1)
    pub noted_all : AreNoted g.calculus (chart_of g.meaning pass.core) (noted pass.notes) pass.size (pass.level + 1)
