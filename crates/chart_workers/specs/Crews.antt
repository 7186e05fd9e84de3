-- How many workers a chart may have.
use Rattle.std.specs.Prelude.{ℕ, ◌<◌, ◌≤◌}

abbrev pub IsCrewSize : ℕ → Type 0
IsCrewSize workers = (0 < workers) × (workers ≤ 64)
