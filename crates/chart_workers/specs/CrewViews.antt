-- What is seen of a crew.
use Rattle.std.specs.Prelude.{ℕ}
use Rattle.chart_workers.specs.declared.crew.Crew.{Crew}

module _ {W : Type 0} where
  -- how many workers there are
  abbrev pub crew_size : Crew W → ℕ
  crew_size c = c.workers
