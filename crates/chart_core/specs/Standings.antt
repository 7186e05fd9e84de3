-- How a task stands.
use Rattle.std.specs.Prelude.{ℕ}
use Rattle.chart_core.specs.declared.chart.Core.{Core}
use Rattle.chart_core.specs.declared.tasks.Standing.{Standing}
use Rattle.chart_core.specs.declared.tasks.Standing.TheVariants as standing
use Rattle.chart_core.specs.Grammar.{Grammar}
use Rattle.chart_core.specs.CoreView.{chart_of}
use Rattle.chart_core.specs.Steps.{IsDoneAt, IsSkipped}
use Rattle.chart_core.specs.Calls.{IsReady}

module _ {X T C W B M : Type 0} (g : Grammar T M C) where
  abbrev pub Stands : Core X T C W B → ℕ → Standing → Type 0
  Stands core t (standing.Done place) = IsDoneAt (chart_of g.meaning core) t place
  Stands core t (standing.Skipped row) = IsSkipped (chart_of g.meaning core) t row.0
  Stands core t (standing.Open rule daughters) = IsReady g core t rule daughters
