-- What a core keeps from call to call.
use Rattle.std.specs.Prelude.{◌≡◌, ℕ, ◌≤◌, List, [], length, map, All, vec_capacity}
use Rattle.chart_model.specs.Chart as model
use Rattle.chart_model.specs.Below.{IsRun}
use Rattle.chart_core.specs.declared.chart.Core.{Core}
use Rattle.chart_core.specs.declared.ended.Finished.{Finished}
use Rattle.chart_core.specs.declared.Row.{Row}
use Rattle.chart_core.specs.declared.Limits.{Limits}
use Rattle.chart_core.specs.Grammar.{Grammar}
use Rattle.chart_core.specs.View.{Belongs}
use Rattle.chart_core.specs.CoreView.{chart_of, history_of, leaves_of, limits_of}
use Rattle.chart_core.specs.Sound.{IsSound, left_of}

-- the limits lie in their ranges
pub record InRange (limits : Limits) : Type 0 where
  pub some_edges : 1 ≤ limits.edges
  pub edges : limits.edges ≤ 20000
  pub some_readings : 1 ≤ limits.readings
  pub readings : limits.readings ≤ 100000
  pub lexical : limits.lexical ≤ 15
  pub unary : limits.unary ≤ 32
  pub empty : limits.empty ≤ 16

-- those of the limits that a chart looks at
abbrev pub limits_seen : Limits → model.Limits
limits_seen limits = record { edges = limits.edges; unary = limits.unary }

module _ {X T C W B : Type 0} where
  -- the number of tasks that were made, and of those that are pending
  abbrev pub tasks_of : Core X T C W B → ℕ
  tasks_of core = length core.tasks.items

  abbrev pub pending_of : Core X T C W B → ℕ
  pending_of core = left_of (map (λ t. t.done) core.tasks.items)

  -- the length of the history
  abbrev pub places_of : Core X T C W B → ℕ
  places_of core = length core.history.items

  -- the core that was finished
  abbrev pub core_of : Finished X T C W B → Core X T C W B
  core_of finished = finished.core

  abbrev pub rows_in : Core X T C W B → List (Row X T C W B)
  rows_in core = core.rows.items

module _ {X T C W B M : Type 0} where
  -- the state is that of the leaves and a history whose outcomes are right, and its shapes belong to the grammar
  pub record IsCore (g : Grammar T M C) (core : Core X T C W B) : Type 0 where
    pub state : chart_of g.meaning core ≡ model.Replay g.calculus (limits_of core) (leaves_of g.meaning core) (history_of g.meaning core)
    pub run : IsRun g.calculus (limits_of core) (model.opened g.calculus (limits_of core) (model.empty g.calculus (limits_of core)) (leaves_of g.meaning core)) (history_of g.meaning core)
    pub belongs_all : All (Belongs g.calculus g.belongs) core.rows.items
    pub sound : IsSound g.keys core
    pub narrow : core.unary ≤ 32
    pub room_for_leaves : length (leaves_of g.meaning core) ≤ vec_capacity core.spare
    pub no_leaves_yet : core.spare.items ≡ []

  -- no outcome was entered yet
  pub record IsOpened (g : Grammar T M C) (core : Core X T C W B) : Type 0 where
    pub state : chart_of g.meaning core ≡ model.opened g.calculus (limits_of core) (model.empty g.calculus (limits_of core)) (leaves_of g.meaning core)
    pub no_history : core.history.items ≡ []
    pub belongs_all : All (Belongs g.calculus g.belongs) core.rows.items
    pub sound : IsSound g.keys core
