-- What is told of a task before its outcome is found.
use Rattle.std.specs.Prelude.{◌≡◌, ℕ, ◌+◌, ◌%◌, ◌^◌, ◌<◌, ◌==◌, if◌then◌else◌, Option, Some, None, All}
use Rattle.chart_model.specs.Tuples.{covers_of}
use Rattle.chart_model.specs.declared.covers.Tuple.{Tuple}
use Rattle.chart_core.specs.declared.chart.Core.{Core}
use Rattle.chart_core.specs.declared.TaskInfo.{TaskInfo}
use Rattle.chart_core.specs.declared.Ready.{Ready}
use Rattle.chart_core.specs.declared.Ready.TheVariants as ready
use Rattle.chart_core.specs.Grammar.{Grammar}
use Rattle.chart_core.specs.Kept.{IsCore, tasks_of}
use Rattle.chart_core.specs.Later.{IsLater, StaysRight}
use Rattle.chart_core.specs.Calls.{Tells, IsInfo, ArePeers}
use Rattle.shared_chart.specs.declared.look.Cell.{Cell}
use Rattle.shared_chart.specs.declared.look.Look.{Look}

-- the level over so many daughters of which the last has this level; levels are far below 2 ^ 32
abbrev pub level_above : ℕ → ℕ → ℕ
level_above daughters level = if daughters == 1 then (level + 1) % 2 ^ 32 else 0

module _ {X T C W B : Type 0} where
  -- the level of the task's mother over so many daughters
  abbrev pub IsLevelOver : (C → ℕ) → Core X T C W B → ℕ → ℕ → ℕ → Type 0
  IsLevelOver extent state t daughters level = (info : TaskInfo) × IsInfo extent state t info × (level ≡ level_above daughters info.level)

module _ {X T C W B M : Type 0} (g : Grammar T M C) (extent : C → ℕ) where
  -- the cover and the level of the mother of these daughters, and the live hosts that these have
  pub record IsCell (state : Core X T C W B) (t rule : ℕ) (parts : Tuple T C) (cell : Cell X T C W B) : Type 0 where
    pub cover : g.calculus.covers rule (covers_of parts) ≡ Some cell.cover
    pub level : IsLevelOver extent state t parts.count cell.level
    pub hosts : ArePeers g state cell.cover cell.level cell.peers.hosts.items
    pub belongs : All (λ peer. g.belongs peer.shape) cell.peers.hosts.items

  -- only a task that is ready has one
  abbrev pub IsCellOf : Core X T C W B → ℕ → Ready X T C W B → Option (Cell X T C W B) → Type 0
  IsCellOf state t r None = Unit {0}
  IsCellOf state t (ready.Ready rule parts) (Some cell) = IsCell state t rule parts cell
  IsCellOf state t (ready.Skipped row) (Some cell) = ⊥
  IsCellOf state t (ready.Done place) (Some cell) = ⊥

  -- how the task stands, and its mother's cell; what is right for it as it was told stays right
  pub record IsLook (state : Core X T C W B) (t : ℕ) (look : Look X T C W B) : Type 0 where
    pub made : t < tasks_of state
    pub tells : Tells g state t look.ready
    pub stays : (later : Core X T C W B) → IsCore g later → IsLater g state later → StaysRight g later t look.ready
    pub cell : IsCellOf state t look.ready look.cell
