-- What is told of tasks that were made together.
use Rattle.std.specs.Prelude.{◌≡◌, ℕ, ◌+◌, ◌-◌, ◌<◌, ◌≤◌, List, [], length, slice_get, Some}
use Rattle.chart_core.specs.declared.chart.Core.{Core}
use Rattle.chart_core.specs.declared.TaskInfo.{TaskInfo}
use Rattle.chart_core.specs.declared.Entered.{Entered}
use Rattle.chart_core.specs.declared.Entered.TheVariants as entered
use Rattle.chart_core.specs.Kept.{tasks_of}
use Rattle.chart_core.specs.Calls.{IsInfo}
use Rattle.shared_chart.specs.declared.unready.Unready.{Unready}
use Rattle.shared_chart.specs.declared.unready.Unready.TheVariants as unready

module _ {X T C W B : Type 0} where
  -- one for each task from the first to before the end, in order
  pub record AreInfos (extent : C → ℕ) (state : Core X T C W B) (first end : ℕ) (infos : List TaskInfo) : Type 0 where
    pub count : length infos ≡ end - first
    pub each : (i : ℕ) (info : TaskInfo) → slice_get infos i ≡ Some info → IsInfo extent state (first + i) info

  -- not all tasks before the end are made; or memory was wanting
  abbrev pub AreUnready : Core X T C W B → ℕ → Unready → Type 0
  AreUnready state end (unready.Unmade tasks) = (tasks ≡ tasks_of state) × (tasks < end)
  AreUnready state end (unready.NoMemory) = Unit {0}

  -- one for each task that the answer says was made, in order
  abbrev pub AreNewInfos : (C → ℕ) → Core X T C W B → Entered → List TaskInfo → Type 0
  AreNewInfos extent state (entered.Stale place) infos = infos ≡ []
  AreNewInfos extent state (entered.Skipped place row) infos = infos ≡ []
  AreNewInfos extent state (entered.Noted place) infos = infos ≡ []
  AreNewInfos extent state (entered.Full made) infos = infos ≡ []
  AreNewInfos extent state (entered.Placed place row first end) infos = AreInfos extent state first.0 end.0 infos
  AreNewInfos extent state (entered.NoMemory) infos = infos ≡ []

  -- the tasks that the answer says were made are there
  abbrev pub AreMade : Core X T C W B → Entered → Type 0
  AreMade state (entered.Stale place) = Unit {0}
  AreMade state (entered.Skipped place row) = Unit {0}
  AreMade state (entered.Noted place) = Unit {0}
  AreMade state (entered.Full made) = Unit {0}
  AreMade state (entered.Placed place row first end) = end.0 ≤ tasks_of state
  AreMade state (entered.NoMemory) = Unit {0}
